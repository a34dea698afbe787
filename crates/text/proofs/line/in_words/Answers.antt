use Rattle.std.proofs.Common.{◌≤◌, length, Some, rules, ◌∙◌, refl}
use Rattle.std.proofs.lemmas.Iterator.{YieldsList-from_slice}
use Rattle.std.proofs.lemmas.Iterator.Consumers.{YieldsList-at, YieldsList-from_enumerate}
use Rattle.text.specs.Words.{words, words_on}
use Rattle.text.specs.Lines.{by_forms, followed, form_numbers}
use Rattle.text.specs.Listed.{listed}
use Rattle.text.proofs.FindMap.{first_found, serves_all}
use Rattle.text.proofs.line.in_words.Goals as goal

pub find_map-requires-clause-callable : goal.find_map-requires-clause-callable
unfolding words_on
find_map-requires-clause-callable c =
    serves_all (λ p. length (words p.1.now) ≤ 8)
    (YieldsList-from_enumerate (YieldsList-at c.enumerate.ensures.source (YieldsList-from_slice _ c.iter.ensures.rest)) c.enumerate.ensures.count)
    (search rules) (λ x q k. search rules) (λ x few. search rules)

pub returns : goal.returns
unfolding by_forms
returns c =
    first_found _ _ _ (λ ns. listed ns) (λ p. followed (Some p.0) (form_numbers (words p.1.now) (words c.args.line.now))) (λ x o q k. search rules)
    c.find_map.result c.find_map.new.self
    (YieldsList-from_enumerate (YieldsList-at c.enumerate.ensures.source (YieldsList-from_slice _ c.iter.ensures.rest)) c.enumerate.ensures.count)
    c.find_map.ensures.ran c.find_map.ensures.runs
    ∙ refl
