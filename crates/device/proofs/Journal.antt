-- The journal keeps the book.
use Rattle.std.proofs.Common.{◌≡◌, ℕ, ◌+◌, ◌*◌, ◌/◌, ◌<◌, ◌≤◌, Bool, true, false, ◌&&◌, eqb, ltb, ◌≢◌, ◌⊎◌, List, [], ◌∷◌, ◌++◌, length, take, replicate, sym, refl, ap, ◌∙◌, subst, inl, inr, arith, length-append, take_all, lt-ltb, eq-eqb, ne_eqb, eqb-true}
use lib.Seq.{take-nil}
use Rattle.std.proofs.lemmas.Bool.{and_parts}
use Rattle.std.proofs.lemmas.List.{drop_all}
use borrow.Author.Tests.{eqb-false}
use Rattle.device.specs.Device.{pick, Device, put}
use Rattle.device.specs.Book.{Book, ran_by, every, Keeps}
use Rattle.device.specs.Plan.{Write, program_of, put_all, put_batches, Among, Torn, AllTorn, whole_writes, whole_batches, PlanSteps, PlanBounds}
use Rattle.device.specs.Journal.{Format, ReadsBack, Grows, chunk, gather, takes, noted, logged, journal, HoldsBlock, HoldsJournal}
use Rattle.device.proofs.Chunks.{every_snoc, every_take, every_drop, block_begins, block_ends, block_there, chunk_at, chunk_other, chunk_fits, gathered}
use Rattle.device.proofs.Keeps.{ran_snoc}
use Rattle.device.proofs.Plan.{plan_keeps}

module _ {C A : Type 0} (b : Book C A) (ok stored asks : C → Bool) (p : ℕ) (pos : 0 < p) (r : ℕ) (changes : b.Bank → C → Bool) (size : b.Bank → ℕ) (o : Grows b ok stored asks p r changes size) where
  -- what a journal always is: calls that can be stored, each of which used up room
  pub record Sound (s : List C) : Type 0 where
    pub oks : every stored s ≡ true
    pub used : size b.new + length s ≤ size (ran_by b b.new s)
    pub short : length s ≤ r * p

  -- a call that is taken finds room
  pub room_left : (s : List C) (c : C) → Sound s → takes b ok changes s c ≡ true → length s < r * p
  unfolding takes
  room_left s c h t =
      let q = and_parts _ _ t in
      let n = o.bound (ran_by b b.new s) c q.0 q.1 in
      let u = h.used in
      omega arith

  sound_more : (s : List C) (c : C) → Sound s → takes b ok changes s c ≡ true → Sound (s ++ (c ∷ []))
  unfolding takes
  sound_more s c h t =
      let q = and_parts _ _ t in
      let g = o.grows (ran_by b b.new s) c q.0 q.1 in
      let u = h.used in
      let l = room_left s c h t in
      record {
        oks = every_snoc stored s c h.oks (o.storable (ran_by b b.new s) c q.0 q.1);
        used = rw (ran_snoc b b.new s c) (simp length-append (omega arith));
        short = simp length-append (omega arith);
      }

  sound_next : (s : List C) (c : C) → Sound s → Sound (noted b ok changes s c)
  unfolding noted
  sound_next s c h = go (takes b ok changes s c) refl
    where
      go : (t : Bool) → takes b ok changes s c ≡ t → Sound (pick t (s ++ (c ∷ [])) s)
      go true t = sound_more s c h t
      go false t = h

  sound_logged : (s ts : List C) → Sound s → Sound (logged b ok changes s ts)
  unfolding logged
  sound_logged s [] h = h
  sound_logged s (c ∷ cs) h = sound_logged (noted b ok changes s c) cs (sound_next s c h)

  sound_none : Sound []
  unfolding every ran_by
  sound_none = record { oks = refl; used = omega arith; short = omega arith }

  -- the journal gives the bank
  ran_noted : (s : List C) (c : C) → ok c ≡ true → b.after (ran_by b b.new s) c ≡ ran_by b b.new (noted b ok changes s c)
  unfolding noted takes
  ran_noted s c g = go (changes (ran_by b b.new s) c) refl
    where
      go : (t : Bool) → changes (ran_by b b.new s) c ≡ t →
          b.after (ran_by b b.new s) c ≡ ran_by b b.new (pick (ok c && changes (ran_by b b.new s) c) (s ++ (c ∷ [])) s)
      go true t = rw (g, t) (sym (ran_snoc b b.new s c))
      go false t = rw (g, t) (o.idle (ran_by b b.new s) c g t)

  pub ran_logged : (s ts : List C) → every ok ts ≡ true → ran_by b (ran_by b b.new s) ts ≡ ran_by b b.new (logged b ok changes s ts)
  unfolding logged every ran_by
  ran_logged s [] g = refl
  ran_logged s (c ∷ cs) g =
      let q = and_parts _ _ g in
      ap (λ n. ran_by b n cs) (ran_noted s c q.0) ∙ ran_logged (noted b ok changes s c) cs q.1

  logged_snoc : (s ts : List C) (c : C) → logged b ok changes s (ts ++ (c ∷ [])) ≡ noted b ok changes (logged b ok changes s ts) c
  unfolding logged
  logged_snoc s [] c = refl
  logged_snoc s (t ∷ ts) c = logged_snoc (noted b ok changes s t) ts c

  module _ (f : Format C) (v : ReadsBack p f stored) (else : C → A) where
    abbrev Reads : Device → List C → Type 0
    Reads = HoldsJournal b ok changes f else p r

    abbrev Block : Device → List C → ℕ → Type 0
    Block = HoldsBlock b ok changes f else p r

    abbrev log : List C → List C
    log ts = logged b ok changes [] ts

    pub sound_log : (ts : List C) → Sound (log ts)
    sound_log ts = sound_logged [] ts sound_none

    -- a start finds the journal
    pub found : (d : Device) (ts : List C) → Reads d ts → gather f.decode d r ≡ log ts
    unfolding HoldsJournal
    found d ts h = gathered p pos f.decode d (log ts) r (λ k l. (h.1 k l).reads) ∙ take_all (r * p) (log ts) (sound_log ts).short

    -- blocks that are alike read alike
    alike : (d e : Device) (ts : List C) → ((k : ℕ) → e k ≡ d k) → Reads d ts → Reads e ts
    unfolding HoldsJournal
    alike d e ts q h = (
      h.0,
      λ k l. record { reads = ap f.decode (q k) ∙ (h.1 k l).reads; mine = ap f.own (q k) ∙ (h.1 k l).mine; bytes = λ g. q k ∙ (h.1 k l).bytes g },
    )

    -- a question or a refusal leaves the journal as it was
    not_noted : (d : Device) (ts : List C) (c : C) → Reads d ts → ok c ≡ true → takes b ok changes (log ts) c ≡ false → Reads d (ts ++ (c ∷ []))
    unfolding HoldsJournal noted
    not_noted d ts c h g t = (every_snoc ok ts c h.0 g, λ k l. rw (logged_snoc [] ts c, t) (h.1 k l))

    -- the block that a call is noted in
    abbrev last_block : List C → C → List ℕ
    last_block s c = f.encode (chunk p (length s / p) s ++ (c ∷ []))

    page_ok : (s : List C) (c : C) → Sound s → takes b ok changes s c ≡ true → every stored (chunk p (length s / p) s ++ (c ∷ [])) ≡ true
    unfolding takes
    page_ok s c h t =
        let q = and_parts _ _ t in
        every_snoc stored (chunk p (length s / p) s) c (every_take stored p _ (every_drop stored (length s / p * p) s h.oks))
        (o.storable (ran_by b b.new s) c q.0 q.1)

    noted_block : (d e : Device) (s : List C) (c : C) (k : ℕ) → Sound s → takes b ok changes s c ≡ true →
        ((j : ℕ) → j ≢ length s / p → e j ≡ d j) → e (length s / p) ≡ last_block s c → Block d s k → Block e (s ++ (c ∷ [])) k
    noted_block d e s c k h g same here was = go (eqb k (length s / p)) refl
      where
        calls : List C
        calls = chunk p (length s / p) s ++ (c ∷ [])

        few : length calls ≤ p
        few = let u = chunk_fits p pos s in simp length-append (omega arith)

        good : every stored calls ≡ true
        good = page_ok s c h g

        now : chunk p (length s / p) (s ++ (c ∷ [])) ≡ calls
        now = chunk_at p pos (length s / p) s c (block_begins p pos (length s)) (block_ends p pos (length s))

        go : (t : Bool) → eqb k (length s / p) ≡ t → Block e (s ++ (c ∷ [])) k
        go true t =
            subst (Block e (s ++ (c ∷ []))) (sym (eqb-true k (length s / p) t))
            (record {
              reads = ap f.decode here ∙ v.back calls few good ∙ sym now;
              mine = ap f.own here ∙ v.own_encoded calls few good;
              bytes = λ m. here ∙ ap f.encode (sym now);
            })
        go false t =
            let q : k ≢ length s / p = eqb-false k (length s / p) t in
            let z : chunk p k (s ++ (c ∷ [])) ≡ chunk p k s = chunk_other p pos k s c q in
            record {
              reads = ap f.decode (same k q) ∙ was.reads ∙ sym z;
              mine = ap f.own (same k q) ∙ was.mine;
              bytes = λ m. same k q ∙ was.bytes (rw z at m) ∙ ap f.encode (sym z);
            }

    now_noted : (d e : Device) (ts : List C) (c : C) → Reads d ts → ok c ≡ true → takes b ok changes (log ts) c ≡ true →
        ((k : ℕ) → k ≢ length (log ts) / p → e k ≡ d k) → e (length (log ts) / p) ≡ last_block (log ts) c → Reads e (ts ++ (c ∷ []))
    unfolding HoldsJournal noted
    now_noted d e ts c h g t same here = (
      every_snoc ok ts c h.0 g,
      λ k l. rw (logged_snoc [] ts c, t) (noted_block d e (log ts) c k (sound_log ts) t same here (h.1 k l)),
    )

    abbrev batches : Bool → List C → C → List (List Write)
    batches t s c = pick t ((record { block = length s / p; bytes = last_block s c } ∷ []) ∷ []) []

    -- only the last block can differ
    elsewhere : (d e : Device) (s : List C) (c : C) → Torn d (record { block = length s / p; bytes = last_block s c } ∷ []) e →
        (k : ℕ) → k ≢ length s / p → e k ≡ d k
    unfolding Torn Among
    elsewhere d e s c w k q = elim (w k) [ inl x ↦ x | inr (inl x) ↦ absurd (q (sym x.0)) | inr (inr x) ↦ absurd x ]

    everywhere : (d e : Device) (j : ℕ) → ((k : ℕ) → k ≢ j → e k ≡ d k) → e j ≡ d j → (k : ℕ) → e k ≡ d k
    everywhere d e j same here k = go (eqb k j) refl
      where
        go : (t : Bool) → eqb k j ≡ t → e k ≡ d k
        go true t = let q : k ≡ j = eqb-true k j t in rw q here
        go false t = same k (eqb-false k j t)

    torn_by : (d : Device) (ts : List C) (c : C) (t : Bool) → takes b ok changes (log ts) c ≡ t → Reads d ts → ok c ≡ true →
        AllTorn (λ e. Reads e ts ⊎ Reads e (ts ++ (c ∷ []))) d (batches t (log ts) c)
    unfolding AllTorn Torn Among
    torn_by d ts c false t h g = tt
    torn_by d ts c true t h g = (
      λ e w.
          elim (w (length (log ts) / p)) [
            | inl x ↦ inl (alike d e ts (everywhere d e (length (log ts) / p) (elsewhere d e (log ts) c w) x) h)
            | inr (inl x) ↦ inr (now_noted d e ts c h g t (elsewhere d e (log ts) c w) (sym x.1))
            | inr (inr x) ↦ absurd x
          ],
      tt,
    )

    goes_by : (d : Device) (ts : List C) (c : C) (t : Bool) → takes b ok changes (log ts) c ≡ t → Reads d ts → ok c ≡ true →
        Reads (put_batches d (batches t (log ts) c)) (ts ++ (c ∷ []))
    unfolding put_batches put_all
    goes_by d ts c false t h g = not_noted d ts c h g t
    goes_by d ts c true t h g =
        now_noted d (put d (length (log ts) / p) (last_block (log ts) c)) ts c h g t
        (λ k q. let z : eqb k (length (log ts) / p) ≡ false = ne_eqb k (length (log ts) / p) q in rw z)
        (let z : eqb (length (log ts) / p) (length (log ts) / p) ≡ true = eq-eqb (length (log ts) / p) (length (log ts) / p) refl in rw z)

    whole_by : (s : List C) (c : C) (t : Bool) → takes b ok changes s c ≡ t → Sound s → whole_batches r (batches t s c) ≡ true
    unfolding whole_batches whole_writes takes
    whole_by s c false t h = refl
    whole_by s c true t h =
        let u = chunk_fits p pos s in
        let few : length (chunk p (length s / p) s ++ (c ∷ [])) ≤ p = simp length-append (omega arith) in
        let good = page_ok s c h t in
        let l = room_left s c h t in
        let there : ltb (length s / p) r ≡ true = lt-ltb (length s / p) r (block_there p pos (length s) r l) in
        rw (there, v.full (chunk p (length s / p) s ++ (c ∷ [])) few good, v.bytes (chunk p (length s / p) s ++ (c ∷ [])) few good)

    paid_by : (s : List C) (c : C) (t : Bool) → takes b ok changes s c ≡ t → 1000 * length (batches t s c) + 0 ≤ 0 + pick (asks c) 0 1001
    unfolding takes
    paid_by s c false t = omega arith
    paid_by s c true t = let q = and_parts _ _ t in rw (o.no_question (ran_by b b.new s) c q.0 q.1) (omega arith)

    -- WHAT IS OWED PER CALL
    abbrev Holds : List C → Device → List C → Type 0
    Holds s d ts = (s ≡ log ts) × Reads d ts

    steps : PlanSteps b (journal b ok changes f else p r) ok Reads Holds
    unfolding ran_by HoldsJournal
    steps =
        record {
          starts = λ d ts h. (found d ts h, h);
          reads = λ s d ts h. h.1;
          tells = λ s d ts c h g. rw (g, h.0) (ap (λ n. b.answer n c) (sym (ran_logged [] ts h.1.0)));
          torn = λ s d ts c h g. rw h.0 (torn_by d ts c (takes b ok changes (log ts) c) refl h.1 g);
          goes_on = λ s d ts c h g. rw h.0 (sym (logged_snoc [] ts c), goes_by d ts c (takes b ok changes (log ts) c) refl h.1 g);
        }

    bounds : (fit : C → Bool) → PlanBounds (journal b ok changes f else p r) r fit asks Reads Sound (λ s. 0)
    bounds fit =
        record {
          starts = λ d ts h. rw (found d ts h) (sound_log ts);
          little = λ d ts h. omega arith;
          stays = λ s c h g. sound_next s c h;
          whole = λ s c h g. whole_by s c (takes b ok changes s c) refl h;
          paid = λ s c h g. paid_by s c (takes b ok changes s c) refl;
        }

    no_calls : (k : ℕ) → chunk {C = C} p k [] ≡ []
    no_calls k = ap (λ (s : List C). take p s) (drop_all {X = C} (k * p) [] (omega arith)) ∙ take-nil p

    empty : (d : Device) → ((k : ℕ) → d k ≡ replicate 512 0) → Reads d []
    unfolding HoldsJournal logged every
    empty d z = (
      refl,
      λ k l. record {
        reads = ap f.decode (z k) ∙ v.none ∙ sym (no_calls k);
        mine = ap f.own (z k) ∙ v.own_none;
        bytes = λ m. absurd (omega (arith, ap length (no_calls k)));
      },
    )

    pub journal_keeps : (fit : C → Bool) → Keeps b (program_of (journal b ok changes f else p r)) r fit ok asks Reads
    journal_keeps fit = plan_keeps b (journal b ok changes f else p r) r fit ok asks Reads Holds Sound (λ s. 0) empty steps (bounds fit)
