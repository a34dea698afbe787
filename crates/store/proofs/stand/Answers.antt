use Rattle.std.proofs.Common.{◌≡◌, ltb, List, ℕ, Some, None, sym, ap, ◌∙◌, subst, of_calls}
use Rattle.std.proofs.lemmas.Bool.{ltb-true}
use Rattle.std.proofs.lemmas.Option.{cond_some}
use Rattle.device.specs.Journal.{gather}
use Rattle.bank.specs.Calls.{Call}
use Rattle.model.specs.JournalBlock.{calls_in}
use Rattle.ledger.specs.Meaning.{limits}
use Rattle.blocks.specs.Blocks.{device_of}
use Rattle.session.specs.Opening.{Acceptable}
use Rattle.session.proofs.Images.{acceptable}
use Rattle.store.proofs.Standing.{stood_recovered, stood_reached, read_none, read_more, returns_next}
use Rattle.store.proofs.stand.Goals as goal

pub loop-k-init : goal.loop-k-init
loop-k-init g c = (c.requires, read_none g.F.FnMut c.args.read c.args.opening)

pub returns-in_err-read-clause-found : goal.returns-in_err-read-clause-found
returns-in_err-read-clause-found g c = λ image ts reads works h.
    let e = (returns_next g.F.FnMut _ c.loop-k.read _ _ c.read.new.self c.read.ensures (c.loop-k.invariant.1.works works)).0 in
    let n : c.read.result ≡ None = c.in_err-read.was in
    cc

pub returns-then-not-take_block-clause-found : goal.returns-then-not-take_block-clause-found
returns-then-not-take_block-clause-found g c = λ image ts reads works h.
    let j = c.loop-k.opening.session.journal in
    let k = cond_some (ltb j.read j.blocks) j.read c.in-Some.k (sym c.in-Some.ensures) in
    let t = c.loop-k.invariant.1.through image reads in
    let e = (returns_next g.F.FnMut _ c.loop-k.read _ _ c.read.new.self c.read.ensures t.0).0 in
    let w : c.read.result ≡ Some tt = c.in_ok-read.was in
    let same : c.read.new.arg3 ≡ device_of image j.read = e w ∙ ap (device_of image) (sym k.1) in
    let base : List Call = gather (calls_in 1 (limits c.args.opening.session.book.ledger)) (device_of image) j.read in
    let a = acceptable c.args.opening c.loop-k.opening image ts h t.1 (ltb-true _ _ k.0) in
    sym c.if-not-take_block.true ∙ c.take_block.ensures.found base (subst (λ (bs : List ℕ). Acceptable c.loop-k.opening base bs) (sym same) a)

pub loop-k-preserved : goal.loop-k-preserved
loop-k-preserved g c =
    let j = c.loop-k.opening.session.journal in
    let k = cond_some (ltb j.read j.blocks) j.read c.in-Some.k (sym c.in-Some.ensures) in
    let w : c.read.result ≡ Some tt = c.in_ok-read.was in (
      search of_calls,
      read_more g.F.FnMut c.args.read c.loop-k.read c.read.new.self c.args.opening c.loop-k.opening c.take_block.new.self c.in-Some.k _ _ c.read.result c.loop-k.invariant.1 c.read.ensures w (sym k.1) (ltb-true _ _ k.0)
          c.take_block.ensures.opens (c.take_block.ensures.advanced c.if-not-take_block.false),
    )

pub returns-clause-recovered : goal.returns-clause-recovered
returns-clause-recovered g c = λ image reads n.
    let s = c.loop-k.invariant.1 in
    stood_recovered c.args.opening c.loop-k.opening image c.stand.result n (s.through image reads).1 s.opens c.stand.ensures

pub returns-clause-reached : goal.returns-clause-reached
returns-clause-reached g c = λ u. stood_reached c.loop-k.opening c.stand.result (c.loop-k.invariant.1.opens u) c.stand.ensures
