-- The promise for all lists of calls and all cuts, from what is owed per call.
use Rattle.std.proofs.Common.{◌≡◌, ℕ, suc, ◌+◌, ◌*◌, ◌≤◌, Bool, true, false, ◌⊎◌, List, [], ◌∷◌, ◌++◌, length, take, replicate, refl, ap, ◌∙◌, inl, inr, append_assoc, append-nil, arith}
use lib.Seq.{take-nil}
use Rattle.std.proofs.lemmas.Bool.{and_parts, and_from}
use Rattle.device.specs.Device.{pick, Device, Act, Program, acts, safe, since_flush, said, whole_blocks, flushes, LeftBy}
use Rattle.device.specs.Book.{Book, ran_by, answers_by, every, counted, written, LeftFrom, CutReads, Steps, Bounds, Keeps, Alike}
use Rattle.device.proofs.Cuts.{safe-++, since_flush-++, said-++, flushes-++, whole-++, take_split}

module _ {C A : Type 0} (b : Book C A) where
  pub ran_snoc : (n : b.Bank) (ts : List C) (c : C) → ran_by b n (ts ++ (c ∷ [])) ≡ b.after (ran_by b n ts) c
  unfolding ran_by
  ran_snoc n [] c = refl
  ran_snoc n (t ∷ ts) c = ran_snoc (b.after n t) ts c

-- what a cut leaves after more acts is what it leaves after the later ones, from where the earlier ones led
module _ {A : Type 0} where
  pub left_later : (d m : Device) (w xs ys : List (Act A)) (e : Device) →
      LeftFrom d m w (xs ++ ys) e → LeftFrom (safe d m xs) (written m xs) (since_flush w xs) ys e
  unfolding LeftFrom
  left_later d m w xs ys e h k = rw (← safe-++ d m xs ys, ← since_flush-++ w xs ys) (h k)

module _ {C A : Type 0} (b : Book C A) (p : Program C A) (ok : C → Bool) (Reads : Device → List C → Type 0)
    (Holds : p.State → Device → Device → List (Act A) → List C → Type 0) (o : Steps b p ok Reads Holds) where
  pub right_from : (cs : List C) (s : p.State) (d m : Device) (w : List (Act A)) (ts : List C) → Holds s d m w ts → every ok cs ≡ true →
      said (acts p s cs) ≡ answers_by b (ran_by b b.new ts) cs
  unfolding acts said answers_by every
  right_from [] s d m w ts h g = refl
  right_from (c ∷ cs) s d m w ts h g =
      let r = and_parts _ _ g in
      said-++ (p.does s c) (acts p (p.next s c) cs)
      ∙ ap (λ (x : List A). x ++ said (acts p (p.next s c) cs)) (o.tells s d m w ts c h r.0)
      ∙ ap (λ (x : List A). b.answer (ran_by b b.new ts) c ∷ x)
      (right_from cs (p.next s c) _ _ _ (ts ++ (c ∷ [])) (o.goes_on s d m w ts c h r.0) r.1
      ∙ ap (λ n. answers_by b n cs) (ran_snoc b b.new ts c))

  abbrev pub RegisterAt : Device → List C → List C → ℕ → Type 0
  RegisterAt e ts cs heard = Reads e (ts ++ take heard cs) ⊎ Reads e (ts ++ take (suc heard) cs)

  -- one call more, of the calls before and not of those to come
  pub shifted : (e : Device) (ts cs : List C) (c : C) (n : ℕ) → RegisterAt e (ts ++ (c ∷ [])) cs n → RegisterAt e ts (c ∷ cs) (suc n)
  shifted e ts cs c n (inl r) = inl (rw append_assoc at r)
  shifted e ts cs c n (inr r) = inr (rw append_assoc at r)

  -- a cut in the first call
  pub in_first : (e : Device) (ts cs : List C) (c : C) (xs : List (Act A)) → CutReads Reads ts c xs e → RegisterAt e ts (c ∷ cs) (length (said xs))
  unfolding CutReads
  in_first e ts cs c xs (inl (z, inl r)) = rw z (inl (rw append-nil r))
  in_first e ts cs c xs (inl (z, inr r)) = rw z (inr r)
  in_first e ts cs c xs (inr (z, r)) = rw z (inl r)

  pub register_from : (cs : List C) (s : p.State) (d m : Device) (w : List (Act A)) (ts : List C) (k : ℕ) (e : Device) → Holds s d m w ts → every ok cs ≡ true →
      LeftFrom d m w (take k (acts p s cs)) e → RegisterAt e ts cs (length (said (take k (acts p s cs))))
  unfolding acts every said
  register_from [] s d m w ts k e h g l = inl (simp (take-nil, append-nil) (o.rests s d m e w ts h (rw (take-nil {A = Act A} k) at l)))
  register_from (c ∷ cs) s d m w ts k e h g l =
      elim (take_split k (p.does s c) (acts p (p.next s c) cs)) [
        | inl q ↦ rw q (in_first e ts cs c (take k (p.does s c)) (o.cuts s d m e w ts c k h r.0 (rw q at l)))
        | inr q ↦
            rw q.1 (later (take q.0 (acts p (p.next s c) cs))
            (register_from cs (p.next s c) _ _ _ (ts ++ (c ∷ [])) q.0 e (o.goes_on s d m w ts c h r.0) r.1
            (left_later d m w (p.does s c) (take q.0 (acts p (p.next s c) cs)) e (rw q.1 at l))))
      ]
    where
      r : (ok c ≡ true) × (every ok cs ≡ true)
      r = and_parts _ _ g

      later : (zs : List (Act A)) → RegisterAt e (ts ++ (c ∷ [])) cs (length (said zs)) → RegisterAt e ts (c ∷ cs) (length (said (p.does s c ++ zs)))
      later zs t = rw (said-++ (p.does s c) zs, o.tells s d m w ts c h r.0) (shifted e ts cs c (length (said zs)) t)

module _ {C A : Type 0} (p : Program C A) (n : ℕ) (fit asks : C → Bool) (Reads : Device → List C → Type 0)
    (Fine : p.State → Type 0) (saved : p.State → ℕ) (o : Bounds p n fit asks Reads Fine saved) where
  pub whole_from : (cs : List C) (s : p.State) → Fine s → every fit cs ≡ true → whole_blocks n (acts p s cs) ≡ true
  unfolding acts every whole_blocks
  whole_from [] s h g = refl
  whole_from (c ∷ cs) s h g =
      let r = and_parts _ _ g in
      whole-++ n (p.does s c) (acts p (p.next s c) cs) (o.whole s c h r.0) (whole_from cs (p.next s c) (o.stays s c h r.0) r.1)

  thousandths : (q : Bool) → pick q 0 1001 ≡ 1001 * pick q 0 1
  thousandths true = refl
  thousandths false = refl

  pub paid_from : (cs : List C) (s : p.State) → Fine s → every fit cs ≡ true → 1000 * flushes (acts p s cs) ≤ saved s + 1001 * counted asks cs
  unfolding acts every counted flushes
  paid_from [] s h g = omega arith
  paid_from (c ∷ cs) s h g =
      let r = and_parts _ _ g in
      let one = o.paid s c h r.0 in
      let more = paid_from cs (p.next s c) (o.stays s c h r.0) r.1 in
      omega (arith, thousandths (asks c), flushes-++ (p.does s c) (acts p (p.next s c) cs))

-- THE THEOREM
module _ {C A : Type 0} (b : Book C A) (p : Program C A) (n : ℕ) (fit ok asks : C → Bool) (Reads : Device → List C → Type 0) where
  pub keeps : (Holds : p.State → Device → Device → List (Act A) → List C → Type 0) (Fine : p.State → Type 0) (saved : p.State → ℕ) →
      ((d : Device) → ((k : ℕ) → d k ≡ replicate 512 0) → Reads d []) →
      Steps b p ok Reads Holds → Bounds p n fit asks Reads Fine saved → Keeps b p n fit ok asks Reads
  unfolding LeftBy LeftFrom
  keeps Holds Fine saved empty o q =
      record {
        empty = empty;
        blocks = λ d ts cs r g. whole_from p n fit asks Reads Fine saved q cs (p.start d) (q.starts d ts r) g;
        flushed = λ d ts cs r g.
            let few = paid_from p n fit asks Reads Fine saved q cs (p.start d) (q.starts d ts r) g in
            let little = q.little d ts r in
            omega arith;
        right = λ d ts cs r g. right_from b p ok Reads Holds o cs (p.start d) d d [] ts (o.starts d ts r) g;
        kept = λ d e ts cs k r g l. register_from b p ok Reads Holds o cs (p.start d) d d [] ts k e (o.starts d ts r) g l;
      }

-- a program that does the same keeps the book too: a model is proved, and the code's own state is tied to it
pub every_weaker : {C : Type 0} (ok fit : C → Bool) → ((c : C) → ok c ≡ true → fit c ≡ true) → (cs : List C) → every ok cs ≡ true → every fit cs ≡ true
unfolding every
every_weaker ok fit w [] h = refl
every_weaker ok fit w (c ∷ cs) h = let r = and_parts _ _ h in and_from _ _ (w c r.0) (every_weaker ok fit w cs r.1)

module _ {C A : Type 0} (p q : Program C A) (fit : C → Bool) (Reads : Device → List C → Type 0) (Same : p.State → q.State → Type 0) (o : Alike p q fit Reads Same) where
  same_acts : (cs : List C) (s : p.State) (t : q.State) → Same s t → every fit cs ≡ true → acts p s cs ≡ acts q t cs
  unfolding acts every
  same_acts [] s t h g = refl
  same_acts (c ∷ cs) s t h g =
      let r = and_parts _ _ g in
      ap (λ (x : List (Act A)). x ++ acts p (p.next s c) cs) (o.does s t c h r.0)
      ∙ ap (λ (x : List (Act A)). q.does t c ++ x) (same_acts cs (p.next s c) (q.next t c) (o.next s t c h r.0) r.1)

  pub alike_keeps : (b : Book C A) (n : ℕ) (ok asks : C → Bool) → ((c : C) → ok c ≡ true → fit c ≡ true) → Keeps b p n fit ok asks Reads → Keeps b q n fit ok asks Reads
  alike_keeps b n ok asks w k =
      record {
        empty = k.empty;
        blocks = λ d ts cs r g. rw (same d ts cs r g) at (k.blocks d ts cs r g);
        flushed = λ d ts cs r g. rw (same d ts cs r g) at (k.flushed d ts cs r g);
        right = λ d ts cs r g. rw (same d ts cs r (every_weaker ok fit w cs g)) at (k.right d ts cs r g);
        kept = λ d e ts cs j r g h.
            let a = same d ts cs r (every_weaker ok fit w cs g) in
            rw a at (k.kept d e ts cs j r g (rw a h));
      }
    where
      same : (d : Device) (ts cs : List C) → Reads d ts → every fit cs ≡ true → acts p (p.start d) cs ≡ acts q (q.start d) cs
      same d ts cs r g = same_acts cs (p.start d) (q.start d) (o.starts d ts r) g
