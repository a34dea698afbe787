-- The bank's own words for lists of calls are the device theory's.
use Rattle.std.proofs.Common.{◌≡◌, ℕ, Bool, true, false, ◌&&◌, List, [], ◌∷◌, ◌++◌, sym, refl, ap, ◌∙◌}
use Rattle.std.proofs.lemmas.Bool.{and_parts, and_from}
use Rattle.bank.specs.Book.{Bank, pick}
use Rattle.bank.specs.Calls.{Call, Answer, Limits, after, answer, answers, ran, new_bank}
use Rattle.bank.specs.Device.{Device, Program}
use Rattle.bank.specs.Promise.{readable, all_readable, asks, changing, room, all_plain}
use Rattle.model.specs.First.{first_call}
use Rattle.model.specs.Core.{book, IsTheBankBy, IsTheFirstBy}
use Rattle.model.specs.Register.{Register, register_book, register_after, new_register}
use Rattle.device.specs.Device.{pick as pick-of}
use Rattle.device.proofs.Keeps.{ran_snoc}
use Rattle.device.specs.Book.{Keeps, ran_by, answers_by, every, counted}

pub ran_is : (l : Limits) (n : Bank) (cs : List Call) → ran_by (book l) n cs ≡ ran l n cs
unfolding ran_by ran
ran_is l n [] = refl
ran_is l n (c ∷ cs) = ran_is l (after l n c) cs

pub ran_one_more : (l : Limits) (n m : Bank) (cs : List Call) (c : Call) → ran l n cs ≡ m → ran l n (cs ++ (c ∷ [])) ≡ after l m c
ran_one_more l n m cs c h = sym (ran_is l n (cs ++ (c ∷ []))) ∙ ran_snoc (book l) n cs c ∙ ap (λ (x : Bank). after l x c) (ran_is l n cs ∙ h)

answers_are : (l : Limits) (n : Bank) (cs : List Call) → answers_by (book l) n cs ≡ answers l n cs
unfolding answers_by answers
answers_are l n [] = refl
answers_are l n (c ∷ cs) = ap (λ (r : List Answer). answer l n c ∷ r) (answers_are l (after l n c) cs)

readable_is : (cs : List Call) → every readable cs ≡ all_readable cs
unfolding every all_readable
readable_is [] = refl
readable_is (c ∷ cs) = ap (λ (r : Bool). readable c && r) (readable_is cs)

first_are : (cs : List Call) → all_readable cs ≡ true → all_plain cs ≡ true → every first_call cs ≡ true
unfolding every all_readable all_plain
first_are [] r q = refl
first_are (c ∷ cs) r q =
    let a = and_parts _ _ r in
    let b = and_parts _ _ q in
    and_from _ _ (and_from _ _ a.0 b.0) (first_are cs a.1 b.1)

pick_is : (q : Bool) → pick-of {A = ℕ} q 0 1 ≡ pick q 0 1
pick_is true = refl
pick_is false = refl

changing_is : (cs : List Call) → counted asks cs ≡ changing cs
unfolding counted changing
changing_is [] = refl
changing_is (c ∷ cs) = rw (pick_is (asks c), changing_is cs)

module _ (l : Limits) (p : Program) (Reads : Device → List Call → Type 0) where
  right_is : (ts cs : List Call) → answers_by (book l) (ran_by (book l) new_bank ts) cs ≡ answers l (ran l new_bank ts) cs
  right_is ts cs = ap (λ (n : Bank). answers_by (book l) n cs) (ran_is l new_bank ts) ∙ answers_are l (ran l new_bank ts) cs

  pub bank_by : Keeps (book l) p (room l) readable readable asks Reads → IsTheBankBy l p Reads
  bank_by o =
      record {
        empty = o.empty;
        blocks = λ d ts cs r g. o.blocks d ts cs r (readable_is cs ∙ g);
        flushed = λ d ts cs r g. rw changing_is at (o.flushed d ts cs r (readable_is cs ∙ g));
        right = λ d ts cs r g. o.right d ts cs r (readable_is cs ∙ g) ∙ right_is ts cs;
        kept = λ d e ts cs k r g h. o.kept d e ts cs k r (readable_is cs ∙ g) h;
      }

  pub first_by : Keeps (book l) p (room l) readable first_call asks Reads → IsTheFirstBy l p Reads
  first_by o =
      record {
        empty = o.empty;
        blocks = λ d ts cs r g. o.blocks d ts cs r (readable_is cs ∙ g);
        flushed = λ d ts cs r g. rw changing_is at (o.flushed d ts cs r (readable_is cs ∙ g));
        right = λ d ts cs r g h. o.right d ts cs r (first_are cs g h) ∙ right_is ts cs;
        kept = λ d e ts cs k r g q h. o.kept d e ts cs k r (first_are cs g q) h;
      }

-- the bank with its rates in order answers as the bank
pub register_ran : (l : Limits) (k : Register) (cs : List Call) → (ran_by (register_book l) k cs).bank ≡ ran_by (book l) k.bank cs
unfolding ran_by
register_ran l k [] = refl
register_ran l k (c ∷ cs) = register_ran l (register_after l k c) cs

register_answers : (l : Limits) (k : Register) (cs : List Call) → answers_by (register_book l) k cs ≡ answers_by (book l) k.bank cs
unfolding answers_by
register_answers l k [] = refl
register_answers l k (c ∷ cs) = ap (λ (r : List Answer). answer l k.bank c ∷ r) (register_answers l (register_after l k c) cs)

pub register_keeps : (l : Limits) (p : Program) (n : ℕ) (fit ok : Call → Bool) (Reads : Device → List Call → Type 0) → Keeps (register_book l) p n fit ok asks Reads → Keeps (book l) p n fit ok asks Reads
register_keeps l p n fit ok Reads o =
    record {
      empty = o.empty;
      blocks = o.blocks;
      flushed = o.flushed;
      right = λ d ts cs r g.
          o.right d ts cs r g ∙ register_answers l (ran_by (register_book l) new_register ts) cs
          ∙ ap (λ (m : Bank). answers_by (book l) m cs) (register_ran l new_register ts);
      kept = o.kept;
    }
