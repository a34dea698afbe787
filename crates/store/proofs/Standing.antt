-- A session that is read block by block.
use Rattle.std.proofs.Common.{◌≡◌, ℕ, ◌<◌, List, [], ◌∷◌, Some, None, Option, IfSome, sym, refl, ap, ◌∙◌, subst, MutBor}
use Rattle.std.specs.Fn.{Called, Mut, AlwaysReturns}
use Rattle.blocks.specs.Blocks.{device_of}
use Rattle.model.specs.Whole.{ReachedRegister}
use Rattle.ledger.specs.Meaning.{register, limits}
use Rattle.session.specs.declared.Session.{Session}
use Rattle.session.specs.declared.Stage.{Stage}
use Rattle.session.specs.declared.opening.Opening.{Opening}
use Rattle.session.specs.Session.{left, left_of, answer_of_lem}
use Rattle.session.specs.Opening.{NewOpening, Opens, Advanced, Through, Stood, Recovered}
use Rattle.session.proofs.Images.{through_none, through_more, started}
use Rattle.store.specs.Reading.{ReadsBlocks, NeverFails}

-- a session that stands where all blocks of an image were taken again is the program started on it
pub stood_recovered : (o p : Opening) (image : List ℕ) (r : Option Session) → NewOpening o (limits o.session.book.ledger) → Through o p image → (Opens o → Opens p) → Stood p r →
    IfSome r (λ s. Recovered o image (Some s))
stood_recovered o p image (Some s) n t u e =
    let done : left p.session ≡ [] = ap (λ (x : Stage). left_of x p.session.journal.block.now (answer_of_lem p.session)) (t.stage_stays ∙ n.idle) in
    subst (λ (x : Session). Recovered o image (Some x)) (sym e.0) (t.limits_stay, started o p image n t e.2, done, u (λ _. n.reached) e.1)
stood_recovered o p image None n t u e = tt

-- the calls that brought about the book of a session that stands are known
pub stood_reached : (p : Opening) (r : Option Session) → Opens p → Stood p r → IfSome r (λ s. ReachedRegister (limits s.book.ledger) (register s.book.ledger))
stood_reached p (Some s) u e = subst (λ (x : Session). ReachedRegister (limits x.book.ledger) (register x.book.ledger)) (sym e.0) (u e.1)
stood_reached p None u e = tt

-- what a callee always returns it returns now, and afterwards
module _ {F X R : Type 0} (g : Mut F X R) (P : X → R → Type 0) where
  pub returns_next : (f : F) (a : X) (r : R) (h : F) → Called g f a r h → AlwaysReturns g P f → P a r × AlwaysReturns g P h
  returns_next f a r h c e = ((e.at (a ∷ []) r h c).0, record { at = λ xs. (e.at (a ∷ xs) r h c).1 })

module _ {F : Type 0} (g : Mut F (ℕ × (MutBor (List ℕ) × Unit {0})) (Option (Unit {0}) × (MutBor (List ℕ) × Unit {0}))) where
  -- the blocks so far were read and taken again
  pub record ReadSoFar (f h : F) (o p : Opening) : Type 0 where
    pub limits_stay : limits p.session.book.ledger ≡ limits o.session.book.ledger
    pub through : (image : List ℕ) → ReadsBlocks g f image → ReadsBlocks g h image × Through o p image
    pub works : NeverFails g f → NeverFails g h
    pub opens : Opens o → Opens p

  pub read_none : (f : F) (o : Opening) → ReadSoFar f f o o
  read_none f o = record { limits_stay = refl; through = λ image e. (e, through_none o image); works = λ e. e; opens = λ e. e }

  pub read_more : (f h i : F) (o p q : Opening) (k : ℕ) (b c : MutBor (List ℕ)) (r : Option (Unit {0})) → ReadSoFar f h o p → Called g h (k, (b, tt)) (r, (c, tt)) i → r ≡ Some tt → k ≡ p.session.journal.read →
      p.session.journal.read < p.session.journal.blocks → (Opens p → Opens q) → Advanced p q c.now → ReadSoFar f i o q
  read_more f h i o p q k b c r s met w e there u a =
      record {
        limits_stay = a.limits_stay ∙ s.limits_stay;
        through = λ image x.
            let t = s.through image x in
            let n = returns_next g _ h _ _ i met t.0 in
            (n.1, through_more o p q image t.1 there (subst (Advanced p q) (n.0 w ∙ ap (device_of image) e) a));
        works = λ x. (returns_next g _ h _ _ i met (s.works x)).1;
        opens = λ x. u (s.opens x);
      }
