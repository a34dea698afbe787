use Rattle.std.proofs.Common.{◌≡◌, ℕ, ◌<◌, ltb, List, sym, ap, ◌∙◌, subst}
use Rattle.std.proofs.lemmas.Bool.{true≢false, ltb-true}
use Rattle.std.proofs.lemmas.Option.{cond_some}
use Rattle.device.specs.Journal.{gather}
use Rattle.bank.specs.Calls.{Call}
use Rattle.model.specs.JournalBlock.{calls_in}
use Rattle.ledger.specs.Meaning.{limits}
use Rattle.blocks.specs.Blocks.{device_of}
use Rattle.session.specs.Opening.{Advanced, Acceptable}
use Rattle.session.proofs.Images.{through_none, through_more, acceptable}
use Rattle.session.proofs.opening.Opening.take_image.Goals as goal

pub loop-k-init : goal.loop-k-init
loop-k-init c = (λ o. o, through_none c.args.self.now c.args.image.now)

pub returns-then-not-take_block-clause-found : goal.returns-then-not-take_block-clause-found
returns-then-not-take_block-clause-found c =
    let o = c.args.self.now in
    let p = c.loop-k.self in
    let j = p.session.journal in
    let image = c.args.image.now in
    let k = cond_some (ltb j.read j.blocks) j.read c.in-Some.k (sym c.in-Some.ensures) in
    let there : j.read < j.blocks = ltb-true _ _ k.0 in
    let same : c.block_at.result.now ≡ device_of image j.read = c.block_at.ensures.device ∙ ap (device_of image) (sym k.1) in
    let base : List Call = gather (calls_in 1 (limits o.session.book.ledger)) (device_of image) j.read in
    λ ts h.
    absurd (true≢false (sym (c.take_block.ensures.found base (subst (λ (bs : List ℕ). Acceptable p base bs) (sym same) (acceptable o p image ts h c.loop-k.invariant.1 there))) ∙ c.if-not-take_block.true))

pub loop-k-preserved : goal.loop-k-preserved
loop-k-preserved c =
    let p = c.loop-k.self in
    let q = c.take_block.new.self in
    let j = p.session.journal in
    let image = c.args.image.now in
    let k = cond_some (ltb j.read j.blocks) j.read c.in-Some.k (sym c.in-Some.ensures) in
    let there : j.read < j.blocks = ltb-true _ _ k.0 in
    let same : c.block_at.result.now ≡ device_of image j.read = c.block_at.ensures.device ∙ ap (device_of image) (sym k.1) in
    (λ o. c.take_block.ensures.opens (c.loop-k.invariant.0 o), through_more c.args.self.now p q image c.loop-k.invariant.1 there (subst (λ (bs : List ℕ). Advanced p q bs) same (c.take_block.ensures.advanced c.if-not-take_block.false)))
