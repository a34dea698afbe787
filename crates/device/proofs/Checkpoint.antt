-- The journal with checkpoints keeps the book.
use Rattle.std.proofs.Common.{◌≡◌, ℕ, zero, suc, ◌+◌, ◌*◌, ◌/◌, ◌%◌, ◌<◌, ◌≤◌, Bool, true, false, eqb, ltb, ◌≢◌, ◌⊎◌, List, [], ◌∷◌, ◌++◌, length, replicate, sym, refl, ap, ◌∙◌, subst, inl, inr, zero-mul, arith, length-append, take_all, lt-ltb, eq-eqb, ne_eqb, eqb-true}
use lib.Seq.{take-nil}
use Rattle.std.proofs.lemmas.Bool.{and_parts, and_from, leb-true, leb-false}
use Rattle.std.proofs.lemmas.List.{drop_all}
use borrow.Author.Tests.{eqb-false}
use Rattle.device.specs.Device.{pick, Device, put, all_bytes}
use Rattle.device.specs.Book.{Book, ran_by, every, Keeps}
use Rattle.device.specs.Plan.{Write, Planned, program_of, put_all, put_batches, Among, Torn, AllTorn, whole_writes, whole_batches, PlanSteps, PlanBounds}
use Rattle.device.specs.Journal.{chunk, gather}
use Rattle.device.specs.Checkpoint.{Layout, LayoutLaws, Changes, Since, area, snapshot_writes, calls_of, bank_of, takes, full, appended, begun, append_batches, checkpoint_batches, checkpointed, Sound, Stands, ReadsSince}
use Rattle.device.proofs.Chunks.{every_snoc, every_take, every_drop, apart, block_begins, block_ends, block_there, chunk_at, chunk_other, chunk_fits, gathered}
use Rattle.device.proofs.Keeps.{ran_snoc}
use Rattle.device.proofs.Plan.{plan_keeps, torn_one, put_torn}

-- a block that was written, and one that was not
put_here : (d : Device) (i : ℕ) (bs : List ℕ) → put d i bs i ≡ bs
put_here d i bs = let z : eqb i i ≡ true = eq-eqb i i refl in rw z

put_else : (d : Device) (i m : ℕ) (bs : List ℕ) → m ≢ i → put d i bs m ≡ d m
put_else d i m bs h = let z : eqb m i ≡ false = ne_eqb m i h in rw z

-- the two areas
sides : (e k : ℕ) → ((pick (eqb (e % 2) 0) 0 k ≡ 0) × (pick (eqb (suc e % 2) 0) 0 k ≡ k)) ⊎ ((pick (eqb (e % 2) 0) 0 k ≡ k) × (pick (eqb (suc e % 2) 0) 0 k ≡ 0))
sides e k = go (eqb (e % 2) 0) (eqb (suc e % 2) 0) refl refl
  where
    go : (x y : Bool) → eqb (e % 2) 0 ≡ x → eqb (suc e % 2) 0 ≡ y → ((pick x 0 k ≡ 0) × (pick y 0 k ≡ k)) ⊎ ((pick x 0 k ≡ k) × (pick y 0 k ≡ 0))
    go true true a b = absurd (omega (arith, eqb-true (e % 2) 0 a, eqb-true (suc e % 2) 0 b))
    go true false a b = inl (refl, refl)
    go false true a b = inr (refl, refl)
    go false false a b = let u : e % 2 ≢ 0 = eqb-false (e % 2) 0 a in let v : suc e % 2 ≢ 0 = eqb-false (suc e % 2) 0 b in absurd (omega arith)

areas_apart : (j k e i m : ℕ) → i < k → m < k → area j k e i ≢ area j k (suc e) m
areas_apart j k e i m h g = elim (sides e k) [ inl q ↦ λ z. omega arith | inr q ↦ λ z. omega arith ]

area_below : (j k e i : ℕ) → i < k → area j k e i < j + 2 * k
area_below j k e i h = elim (sides e k) [ inl q ↦ omega arith | inr q ↦ omega arith ]

-- the writes of a snapshot: where they do not go, and what they leave
snapshot_among : (u : ℕ → Bool) (g : ℕ → List ℕ) (at : ℕ → ℕ) (n m : ℕ) (bs : List ℕ) → Among m bs (snapshot_writes u g at n) → (i : ℕ) × (i < n) × (at i ≡ m)
unfolding Among snapshot_writes
snapshot_among u g at zero m bs h = absurd h
snapshot_among u g at (suc n) m bs h =
    go (u 0) (λ x. snapshot_among (λ i. u (suc i)) (λ i. g (suc i)) (λ i. at (suc i)) n m bs x) h
  where
    rest : List Write
    rest = snapshot_writes (λ i. u (suc i)) (λ i. g (suc i)) (λ i. at (suc i)) n

    later : ((i : ℕ) × (i < n) × (at (suc i) ≡ m)) → (i : ℕ) × (i < suc n) × (at i ≡ m)
    later r = (suc r.0, omega (arith, r.1), r.2)

    go : (t : Bool) → (Among m bs rest → (i : ℕ) × (i < n) × (at (suc i) ≡ m)) →
        Among m bs (pick t (record { block = at 0; bytes = g 0 } ∷ rest) rest) → (i : ℕ) × (i < suc n) × (at i ≡ m)
    go true k (inl x) = (0, omega arith, x.0)
    go true k (inr x) = later (k x)
    go false k x = later (k x)

snapshot_elsewhere : (u : ℕ → Bool) (g : ℕ → List ℕ) (at : ℕ → ℕ) (n : ℕ) (d e : Device) → Torn d (snapshot_writes u g at n) e → (m : ℕ) → ((i : ℕ) → i < n → m ≢ at i) → e m ≡ d m
unfolding Torn
snapshot_elsewhere u g at n d e h m q = elim (h m) [ inl x ↦ x | inr x ↦ let r = snapshot_among u g at n m (e m) x in absurd (q r.0 r.1 (sym r.2)) ]

snapshot_keeps : (u : ℕ → Bool) (g : ℕ → List ℕ) (at : ℕ → ℕ) (n : ℕ) (d : Device) (m : ℕ) → ((i : ℕ) → i < n → m ≢ at i) → put_all d (snapshot_writes u g at n) m ≡ d m
snapshot_keeps u g at n d m q = snapshot_elsewhere u g at n d (put_all d (snapshot_writes u g at n)) (put_torn d (snapshot_writes u g at n)) m q

snapshot_there : (u : ℕ → Bool) (g : ℕ → List ℕ) (at : ℕ → ℕ) (n : ℕ) (d : Device) → ((i m : ℕ) → i < n → m < n → at i ≡ at m → i ≡ m) → (i : ℕ) → i < n → u i ≡ true →
    put_all d (snapshot_writes u g at n) (at i) ≡ g i
unfolding put_all snapshot_writes
snapshot_there u g at zero d q i h t = absurd (omega arith)
snapshot_there u g at (suc n) d q zero h t =
    rw t (snapshot_keeps (λ i. u (suc i)) (λ i. g (suc i)) (λ i. at (suc i)) n (put d (at 0) (g 0)) (at 0)
    (λ m l e. let w : 0 ≡ suc m = q 0 (suc m) (omega arith) (omega arith) e in omega arith) ∙ put_here d (at 0) (g 0))
snapshot_there u g at (suc n) d q (suc i) h t =
    go (u 0)
    (snapshot_there (λ i. u (suc i)) (λ i. g (suc i)) (λ i. at (suc i)) n (put d (at 0) (g 0)) apart_yet i (omega arith) t)
    (snapshot_there (λ i. u (suc i)) (λ i. g (suc i)) (λ i. at (suc i)) n d apart_yet i (omega arith) t)
  where
    rest : List Write
    rest = snapshot_writes (λ i. u (suc i)) (λ i. g (suc i)) (λ i. at (suc i)) n

    apart_yet : (x y : ℕ) → x < n → y < n → at (suc x) ≡ at (suc y) → x ≡ y
    apart_yet x y a b e = let w : suc x ≡ suc y = q (suc x) (suc y) (omega arith) (omega arith) e in omega arith

    go : (t : Bool) → put_all (put d (at 0) (g 0)) rest (at (suc i)) ≡ g (suc i) → put_all d rest (at (suc i)) ≡ g (suc i) →
        put_all d (pick t (record { block = at 0; bytes = g 0 } ∷ rest) rest) (at (suc i)) ≡ g (suc i)
    go true x y = x
    go false x y = y

-- a snapshot's writes are of whole blocks
snapshot_whole : (u : ℕ → Bool) (g : ℕ → List ℕ) (at : ℕ → ℕ) (r n : ℕ) → ((i : ℕ) → i < n → at i < r) → ((i : ℕ) → i < n → u i ≡ true → length (g i) ≡ 512) →
    ((i : ℕ) → i < n → u i ≡ true → all_bytes (g i) ≡ true) → whole_writes r (snapshot_writes u g at n) ≡ true
unfolding whole_writes snapshot_writes
snapshot_whole u g at r zero x y z = refl
snapshot_whole u g at r (suc n) x y z =
    go (u 0) refl
    (snapshot_whole (λ i. u (suc i)) (λ i. g (suc i)) (λ i. at (suc i)) r n (λ i h. x (suc i) (omega arith)) (λ i h. y (suc i) (omega arith)) (λ i h. z (suc i) (omega arith)))
  where
    rest : List Write
    rest = snapshot_writes (λ i. u (suc i)) (λ i. g (suc i)) (λ i. at (suc i)) n

    go : (t : Bool) → u 0 ≡ t → whole_writes r rest ≡ true → whole_writes r (pick t (record { block = at 0; bytes = g 0 } ∷ rest) rest) ≡ true
    go true t k =
        let l : ltb (at 0) r ≡ true = lt-ltb (at 0) r (x 0 (omega arith)) in
        let m : length (g 0) ≡ 512 = y 0 (omega arith) t in
        let a : all_bytes (g 0) ≡ true = z 0 (omega arith) t in
        rw (l, m, a) k
    go false t k = k

module _ {C A : Type 0} (b : Book C A) (ok stored asks : C → Bool) (changes : b.Bank → C → Bool) (size : b.Bank → ℕ) (within : b.Bank → Type 0) (cap : ℕ)
    (o : Changes b ok stored asks cap changes size within) (p : ℕ) (pos : 0 < p) (j k : ℕ) (first : 0 < j) (enough : 1000 ≤ j * p)
    (f : Layout C b.Bank) (v : LayoutLaws p k cap f stored within) (else : C → A) where
  abbrev bank : Since C b.Bank → b.Bank
  bank s = bank_of b ok changes f else p j k s

  abbrev Fine : Since C b.Bank → Type 0
  Fine = Sound b ok changes f else p j k stored size within

  abbrev On : Since C b.Bank → Device → List C → Type 0
  On = Stands b ok changes f else p j k stored size within

  abbrev Reads : Device → List C → Type 0
  Reads = ReadsSince b ok changes f else p j k stored size within

  abbrev plus : Since C b.Bank → C → Since C b.Bank
  plus = appended b ok changes f else p j k

  abbrev anew : Since C b.Bank → C → Since C b.Bank
  anew = begun b ok changes f else p j k

  abbrev take? : Since C b.Bank → C → Bool
  take? = takes b ok changes f else p j k

  abbrev full? : Since C b.Bank → Bool
  full? = full b ok changes f else p j k

  -- a call that is taken, on a bank within its bounds
  pub record Taken (s : Since C b.Bank) (c : C) : Type 0 where
    pub good : ok c ≡ true
    pub keep : stored c ≡ true
    pub ends : within (b.after (bank s) c)
    pub grows : suc (size (bank s)) ≤ size (b.after (bank s) c)
    pub asked : asks c ≡ false

  taken : (s : Since C b.Bank) (c : C) → Fine s → take? s c ≡ true → Taken s c
  unfolding takes
  taken s c h t =
      let q = and_parts (ok c) (changes (bank s) c) t in
      record {
        good = q.0;
        keep = o.storable (bank s) c h.ends q.0 q.1;
        ends = o.stays (bank s) c h.ends q.0 q.1;
        grows = o.grows (bank s) c h.ends q.0 q.1;
        asked = o.no_question (bank s) c q.0 q.1;
      }

  -- what stays sound
  sound_plus : (s : Since C b.Bank) (c : C) → Fine s → Taken s c → full? s ≡ false → Fine (plus s c)
  unfolding full
  sound_plus s c h t u =
      let l : length s.log < 1000 = leb-false 1000 (length s.log) u in
      let e = h.small in
      let g = t.grows in
      record {
        oks = every_snoc stored s.log c h.oks t.keep;
        short = simp length-append (omega arith);
        small = rw (ran_snoc b s.base s.log c) (omega arith);
        based = h.based;
        ends = rw (ran_snoc b s.base s.log c) t.ends;
      }

  sound_anew : (s : Since C b.Bank) (c : C) → Fine s → Taken s c → Fine (anew s c)
  unfolding ran_by every
  sound_anew s c h t =
      let e = h.small in
      let g = t.grows in
      record {
        oks = and_from _ _ t.keep refl;
        short = omega arith;
        small = omega arith;
        based = h.ends;
        ends = t.ends;
      }

  -- a start finds what stands there
  state : (s u : Since C b.Bank) → s.epoch ≡ u.epoch → s.base ≡ u.base → s.log ≡ u.log → s ≡ u
  state s u x y z = λ i. record { epoch = x i; base = y i; log = z i }

  abbrev pub boot : Device → Since C b.Bank
  boot d = (checkpointed b ok changes f else p j k).start d

  pub found : (s : Since C b.Bank) (d : Device) (ts : List C) → On s d ts → boot d ≡ s
  found s d ts h = state (boot d) s h.tag_is (rw h.tag_is (base h.base_is)) (rw h.tag_is log)
    where
      base : ((s.epoch ≡ 0) × (s.base ≡ b.new)) ⊎ ((0 < s.epoch) × ((i : ℕ) → i < k → f.uses s.base i ≡ true → d (area j k s.epoch i) ≡ f.snapshot s.base i)) →
          pick (eqb s.epoch 0) b.new (f.restore (λ i. d (area j k s.epoch i))) ≡ s.base
      base (inl q) = rw (q.0, q.1)
      base (inr q) =
          let z : eqb s.epoch 0 ≡ false = ne_eqb s.epoch 0 (λ e. omega (arith, q.0)) in
          rw z (v.snapshot_back s.base (λ i. d (area j k s.epoch i)) h.sound.based q.1)

      log : gather (calls_of f s.epoch) d j ≡ s.log
      log =
          let l = h.sound.short in
          gathered p pos (calls_of f s.epoch) d s.log j h.log_is ∙ take_all (j * p) s.log (omega arith)

  put_case : (P : List ℕ → Type 0) (d : Device) (q : ℕ) (bs : List ℕ) (i : ℕ) → (i ≡ q → P bs) → (i ≢ q → P (d i)) → P (put d q bs i)
  put_case P d q bs i x y = go (eqb i q) refl
    where
      go : (t : Bool) → eqb i q ≡ t → P (put d q bs i)
      go true t = rw t (x (eqb-true i q t))
      go false t = rw t (y (eqb-false i q t))

  calls_encoded : (e : ℕ) (cs : List C) → e ≤ cap → length cs ≤ p → every stored cs ≡ true → calls_of f e (f.encode e cs) ≡ cs
  calls_encoded e cs h l g =
      let z : eqb (f.tag (f.encode e cs)) e ≡ true = eq-eqb (f.tag (f.encode e cs)) e (v.tag_back e cs h l g) in
      rw z (v.calls_back e cs h l g)

  -- the block that a call is appended to
  abbrev at : Since C b.Bank → ℕ
  at s = length s.log / p

  abbrev calls_at : Since C b.Bank → C → List C
  calls_at s c = chunk p (at s) s.log ++ (c ∷ [])

  room_at : (s : Since C b.Bank) → full? s ≡ false → at s < j
  unfolding full
  room_at s u = let l : length s.log < 1000 = leb-false 1000 (length s.log) u in block_there p pos (length s.log) j (omega arith)

  few_at : (s : Since C b.Bank) (c : C) → length (calls_at s c) ≤ p
  few_at s c = let l = chunk_fits p pos s.log in simp length-append (omega arith)

  stored_at : (s : Since C b.Bank) (c : C) → Fine s → Taken s c → every stored (calls_at s c) ≡ true
  stored_at s c h t = every_snoc stored (chunk p (at s) s.log) c (every_take stored p _ (every_drop stored (at s * p) s.log h.oks)) t.keep

  capped : (s : Since C b.Bank) → Fine s → s.epoch ≤ cap
  capped s h = let m = o.bound (bank s) h.ends in let e = h.small in omega arith

  capped_next : (s : Since C b.Bank) (c : C) → Fine s → Taken s c → suc s.epoch ≤ cap
  capped_next s c h t = let m = o.bound (b.after (bank s) c) t.ends in let e = h.small in let g = t.grows in omega arith

  -- a call that is appended stands on the device
  stands_plus : (s : Since C b.Bank) (d : Device) (ts : List C) (c : C) → On s d ts → Taken s c → full? s ≡ false →
      On (plus s c) (put d (at s) (f.encode s.epoch (calls_at s c))) (ts ++ (c ∷ []))
  stands_plus s d ts c h t u =
      record {
        sound = sound_plus s c h.sound t u;
        oks = every_snoc ok ts c h.oks t.good;
        same = ran_snoc b s.base s.log c ∙ ap (λ n. b.after n c) h.same ∙ sym (ran_snoc b b.new ts c);
        tag_is = put_case (λ x. f.tag x ≡ s.epoch) d (at s) encode 0 (λ q. tagged) (λ q. h.tag_is);
        mine = λ i l. put_case (λ x. f.own x ≡ true) d (at s) encode i (λ q. owned) (λ q. h.mine i l);
        tags = λ i l. put_case (λ x. f.tag x ≤ s.epoch) d (at s) encode i (λ q. omega (arith, tagged)) (λ q. h.tags i l);
        log_is = λ i l.
            put_case (λ x. calls_of f s.epoch x ≡ chunk p i (s.log ++ (c ∷ []))) d (at s) encode i
            (λ q. rw q (calls_encoded s.epoch (calls_at s c) (capped s h.sound) (few_at s c) (stored_at s c h.sound t)
            ∙ sym (chunk_at p pos (at s) s.log c (block_begins p pos (length s.log)) (block_ends p pos (length s.log)))))
            (λ q. h.log_is i l ∙ sym (chunk_other p pos i s.log c q));
        bytes = λ i l.
            put_case (λ x. 0 < length (chunk p i (s.log ++ (c ∷ []))) → x ≡ f.encode s.epoch (chunk p i (s.log ++ (c ∷ [])))) d (at s) encode i
            (λ q m. ap (f.encode s.epoch) (rw q (sym (chunk_at p pos (at s) s.log c (block_begins p pos (length s.log)) (block_ends p pos (length s.log))))))
            (λ q m.
            let z : chunk p i (s.log ++ (c ∷ [])) ≡ chunk p i s.log = chunk_other p pos i s.log c q in
            h.bytes i l (rw z at m) ∙ ap (f.encode s.epoch) (sym z));
        base_is = base h.base_is;
      }
    where
      encode : List ℕ
      encode = f.encode s.epoch (calls_at s c)

      tagged : f.tag encode ≡ s.epoch
      tagged = v.tag_back s.epoch (calls_at s c) (capped s h.sound) (few_at s c) (stored_at s c h.sound t)

      owned : f.own encode ≡ true
      owned = v.own_encoded s.epoch (calls_at s c) (capped s h.sound) (few_at s c) (stored_at s c h.sound t)

      base : ((s.epoch ≡ 0) × (s.base ≡ b.new)) ⊎ ((0 < s.epoch) × ((i : ℕ) → i < k → f.uses s.base i ≡ true → d (area j k s.epoch i) ≡ f.snapshot s.base i)) →
          ((s.epoch ≡ 0) × (s.base ≡ b.new)) ⊎ ((0 < s.epoch) × ((i : ℕ) → i < k → f.uses s.base i ≡ true → put d (at s) encode (area j k s.epoch i) ≡ f.snapshot s.base i))
      base (inl q) = inl q
      base (inr q) =
          let r = room_at s u in
          inr (q.0, λ i l u. put_else d (at s) (area j k s.epoch i) encode (λ z. omega arith) ∙ q.1 i l u)

  -- what stands on a device stands on one that has the same journal and the same snapshot
  stands_else : (s : Since C b.Bank) (d e : Device) (ts : List C) → On s d ts → ((i : ℕ) → i < j → e i ≡ d i) →
      ((i : ℕ) → i < k → e (area j k s.epoch i) ≡ d (area j k s.epoch i)) → On s e ts
  stands_else s d e ts h x y =
      record {
        sound = h.sound;
        oks = h.oks;
        same = h.same;
        tag_is = ap f.tag (x 0 first) ∙ h.tag_is;
        mine = λ i l. rw (x i l) (h.mine i l);
        tags = λ i l. rw (x i l) (h.tags i l);
        log_is = λ i l. rw (x i l) (h.log_is i l);
        bytes = λ i l m. x i l ∙ h.bytes i l m;
        base_is = elim h.base_is [ inl q ↦ inl q | inr q ↦ inr (q.0, λ i l u. y i l ∙ q.1 i l u) ];
      }

  -- a checkpoint stands on the device once its snapshot does
  stands_anew : (s : Since C b.Bank) (d : Device) (ts : List C) (c : C) → On s d ts → Taken s c →
      ((i : ℕ) → i < k → f.uses (bank s) i ≡ true → d (area j k (suc s.epoch) i) ≡ f.snapshot (bank s) i) →
      On (anew s c) (put d 0 (f.encode (suc s.epoch) (c ∷ []))) (ts ++ (c ∷ []))
  unfolding ran_by every
  stands_anew s d ts c h t y =
      record {
        sound = sound_anew s c h.sound t;
        oks = every_snoc ok ts c h.oks t.good;
        same = ap (λ n. b.after n c) h.same ∙ sym (ran_snoc b b.new ts c);
        tag_is = put_case (λ x. f.tag x ≡ suc s.epoch) d 0 encode 0 (λ q. tagged) (λ q. absurd (q refl));
        mine = λ i l. put_case (λ x. f.own x ≡ true) d 0 encode i (λ q. owned) (λ q. h.mine i l);
        tags = λ i l. put_case (λ x. f.tag x ≤ suc s.epoch) d 0 encode i (λ q. omega (arith, tagged)) (λ q. omega (arith, h.tags i l));
        log_is = λ i l. put_case (λ x. calls_of f (suc s.epoch) x ≡ chunk p i (c ∷ [])) d 0 encode i (here i) (stale i l);
        bytes = λ i l. put_case (λ x. 0 < length (chunk p i (c ∷ [])) → x ≡ f.encode (suc s.epoch) (chunk p i (c ∷ []))) d 0 encode i (λ q m. ap (f.encode (suc s.epoch)) (sym (first_chunk i q)))
            (λ q m. absurd (omega (arith, ap length (later_chunk i q))));
        base_is = inr (omega arith, λ i l u. put_else d 0 (area j k (suc s.epoch) i) encode (λ z. omega arith) ∙ y i l u);
      }
    where
      encode : List ℕ
      encode = f.encode (suc s.epoch) (c ∷ [])

      one : every stored (c ∷ []) ≡ true
      one = and_from _ _ t.keep refl

      tagged : f.tag encode ≡ suc s.epoch
      tagged = v.tag_back (suc s.epoch) (c ∷ []) (capped_next s c h.sound t) (omega arith) one

      owned : f.own encode ≡ true
      owned = v.own_encoded (suc s.epoch) (c ∷ []) (capped_next s c h.sound t) (omega arith) one

      first_chunk : (i : ℕ) → i ≡ 0 → chunk p i (c ∷ []) ≡ c ∷ []
      first_chunk i q = let l : length (c ∷ []) ≤ p = omega arith in rw (q, zero-mul p, take_all p (c ∷ []) l)

      later_chunk : (i : ℕ) → i ≢ 0 → chunk p i (c ∷ []) ≡ []
      later_chunk i q =
          let a : 0 < i = omega arith in
          let m : length (c ∷ []) ≤ i * p = omega (arith, apart p 0 i a) in
          rw (drop_all (i * p) (c ∷ []) m, take-nil {A = C} p)

      here : (i : ℕ) → i ≡ 0 → calls_of f (suc s.epoch) encode ≡ chunk p i (c ∷ [])
      here i q = calls_encoded (suc s.epoch) (c ∷ []) (capped_next s c h.sound t) (omega arith) one ∙ sym (first_chunk i q)

      stale : (i : ℕ) → i < j → i ≢ 0 → calls_of f (suc s.epoch) (d i) ≡ chunk p i (c ∷ [])
      stale i l q =
          let g : f.tag (d i) ≤ s.epoch = h.tags i l in
          let z : eqb (f.tag (d i)) (suc s.epoch) ≡ false = ne_eqb (f.tag (d i)) (suc s.epoch) (λ w. omega arith) in
          rw z (sym (later_chunk i q))

  -- THE COPY
  abbrev snapshots : Since C b.Bank → List Write
  snapshots s = snapshot_writes (f.uses (bank s)) (f.snapshot (bank s)) (area j k (suc s.epoch)) k

  -- a device on which a part of the snapshot was written
  snapshotting : (s : Since C b.Bank) (d e : Device) (ts : List C) → On s d ts → Torn d (snapshots s) e → On s e ts
  snapshotting s d e ts h w =
      stands_else s d e ts h
      (λ i l. snapshot_elsewhere (f.uses (bank s)) (f.snapshot (bank s)) (area j k (suc s.epoch)) k d e w i (λ m g z. omega arith))
      (λ i l. snapshot_elsewhere (f.uses (bank s)) (f.snapshot (bank s)) (area j k (suc s.epoch)) k d e w (area j k s.epoch i) (λ m g. areas_apart j k s.epoch i m l g))

  snapshot_put : (s : Since C b.Bank) (d : Device) (i : ℕ) → i < k → f.uses (bank s) i ≡ true → put_all d (snapshots s) (area j k (suc s.epoch) i) ≡ f.snapshot (bank s) i
  snapshot_put s d i l t = snapshot_there (f.uses (bank s)) (f.snapshot (bank s)) (area j k (suc s.epoch)) k d (λ x y g h e. omega arith) i l t

  -- WHAT IS OWED PER CALL
  abbrev Q : Planned C A
  Q = checkpointed b ok changes f else p j k

  abbrev batches : Bool → Bool → Since C b.Bank → C → List (List Write)
  batches t u s c = pick t (pick u (checkpoint_batches b ok changes f else p j k s c) (append_batches b ok changes f else p j k s c)) []

  abbrev then : Bool → Bool → Since C b.Bank → C → Since C b.Bank
  then t u s c = pick t (pick u (anew s c) (plus s c)) s

  ended : (s : Since C b.Bank) (d e : Device) (ts : List C) → e ≡ d → On s d ts → Reads e ts
  ended s d e ts q h = (s, rw q h)

  torn_by : (s : Since C b.Bank) (d : Device) (ts : List C) (c : C) (t u : Bool) → take? s c ≡ t → full? s ≡ u → On s d ts →
      AllTorn (λ e. Reads e ts ⊎ Reads e (ts ++ (c ∷ []))) d (batches t u s c)
  unfolding AllTorn
  torn_by s d ts c false u x y h = tt
  torn_by s d ts c true false x y h = (
    λ e w. elim (torn_one d e _ w) [
      | inl q ↦ inl (ended s d e ts q h)
      | inr q ↦ inr (ended (plus s c) _ e (ts ++ (c ∷ [])) q (stands_plus s d ts c h (taken s c h.sound x) y))
    ],
    tt,
  )
  torn_by s d ts c true true x y h =
      let d1 : Device = put_all d (snapshots s) in
      let h1 : On s d1 ts = snapshotting s d d1 ts h (put_torn d (snapshots s)) in (
        λ e w. inl (s, snapshotting s d e ts h w),
        (
          λ e w. elim (torn_one d1 e _ w) [
            | inl q ↦ inl (ended s d1 e ts q h1)
            | inr q ↦ inr (ended (anew s c) _ e (ts ++ (c ∷ [])) q (stands_anew s d1 ts c h1 (taken s c h.sound x) (λ i l t. snapshot_put s d i l t)))
          ],
          tt,
        ),
      )

  -- a question or a refusal changes nothing
  stands_still : (s : Since C b.Bank) (d : Device) (ts : List C) (c : C) → On s d ts → ok c ≡ true → take? s c ≡ false → On s d (ts ++ (c ∷ []))
  unfolding takes
  stands_still s d ts c h g t =
      record {
        sound = h.sound;
        oks = every_snoc ok ts c h.oks g;
        same = sym (ran_snoc b b.new ts c ∙ ap (λ n. b.after n c) (sym h.same) ∙ o.idle (bank s) c g (rw g at t)) ∙ refl;
        tag_is = h.tag_is;
        mine = h.mine;
        tags = h.tags;
        log_is = h.log_is;
        bytes = h.bytes;
        base_is = h.base_is;
      }

  goes_by : (s : Since C b.Bank) (d : Device) (ts : List C) (c : C) (t u : Bool) → take? s c ≡ t → full? s ≡ u → On s d ts → ok c ≡ true →
      On (then t u s c) (put_batches d (batches t u s c)) (ts ++ (c ∷ []))
  unfolding put_batches put_all
  goes_by s d ts c false u x y h g = stands_still s d ts c h g x
  goes_by s d ts c true false x y h g = stands_plus s d ts c h (taken s c h.sound x) y
  goes_by s d ts c true true x y h g =
      stands_anew s (put_all d (snapshots s)) ts c (snapshotting s d (put_all d (snapshots s)) ts h (put_torn d (snapshots s))) (taken s c h.sound x) (λ i l t. snapshot_put s d i l t)

  fine_by : (s : Since C b.Bank) (c : C) (t u : Bool) → take? s c ≡ t → full? s ≡ u → Fine s → Fine (then t u s c)
  fine_by s c false u x y h = h
  fine_by s c true false x y h = sound_plus s c h (taken s c h x) y
  fine_by s c true true x y h = sound_anew s c h (taken s c h x)

  module _ (r : ℕ) (fits : j + 2 * k ≤ r) where
    whole_by : (s : Since C b.Bank) (c : C) (t u : Bool) → take? s c ≡ t → full? s ≡ u → Fine s → whole_batches r (batches t u s c) ≡ true
    unfolding whole_batches whole_writes every
    whole_by s c false u x y h = refl
    whole_by s c true false x y h =
        let t = taken s c h x in
        let m = room_at s y in
        let there : ltb (at s) r ≡ true = lt-ltb (at s) r (omega arith) in
        rw (
          there,
          v.encode_full s.epoch (calls_at s c) (capped s h) (few_at s c) (stored_at s c h t),
          v.encode_bytes s.epoch (calls_at s c) (capped s h) (few_at s c) (stored_at s c h t),
        )
    whole_by s c true true x y h =
        let t = taken s c h x in
        let one : every stored (c ∷ []) ≡ true = and_from _ _ t.keep refl in
        let there : ltb 0 r ≡ true = lt-ltb 0 r (omega arith) in
        let few : length (c ∷ []) ≤ p = omega arith in
        and_from _ _
        (snapshot_whole (f.uses (bank s)) (f.snapshot (bank s)) (area j k (suc s.epoch)) r k
        (λ i l. let a = area_below j k (suc s.epoch) i l in omega arith) (λ i l q. v.snapshot_full (bank s) i h.ends l q) (λ i l q. v.snapshot_bytes (bank s) i h.ends l q))
        (rw (there, v.encode_full (suc s.epoch) (c ∷ []) (capped_next s c h t) few one, v.encode_bytes (suc s.epoch) (c ∷ []) (capped_next s c h t) few one))

    paid_by : (s : Since C b.Bank) (c : C) (t u : Bool) → take? s c ≡ t → full? s ≡ u → Fine s →
        1000 * length (batches t u s c) + length (then t u s c).log ≤ length s.log + pick (asks c) 0 1001
    unfolding full
    paid_by s c false u x y h = omega arith
    paid_by s c true false x y h = rw (taken s c h x).asked (simp length-append (omega arith))
    paid_by s c true true x y h = let l : 1000 ≤ length s.log = leb-true 1000 (length s.log) y in rw (taken s c h x).asked (omega arith)

    steps : PlanSteps b Q ok Reads On
    steps =
        record {
          starts = λ d ts h. rw (found h.0 d ts h.1) h.1;
          reads = λ s d ts h. (s, h);
          tells = λ s d ts c h g. rw (g, h.same);
          torn = λ s d ts c h g. torn_by s d ts c (take? s c) (full? s) refl refl h;
          goes_on = λ s d ts c h g. goes_by s d ts c (take? s c) (full? s) refl refl h g;
        }

    bounds : (fit : C → Bool) → PlanBounds Q r fit asks Reads Fine (λ s. length s.log)
    bounds fit =
        record {
          starts = λ d ts h. rw (found h.0 d ts h.1) h.1.sound;
          little = λ d ts h. subst (λ (s : Since C b.Bank). length s.log ≤ 1000) (sym (found h.0 d ts h.1)) h.1.sound.short;
          stays = λ s c h g. fine_by s c (take? s c) (full? s) refl refl h;
          whole = λ s c h g. whole_by s c (take? s c) (full? s) refl refl h;
          paid = λ s c h g. paid_by s c (take? s c) (full? s) refl refl h;
        }

    no_calls : (i : ℕ) → chunk {C = C} p i [] ≡ []
    no_calls i = let q : length {A = C} [] ≤ i * p = omega arith in rw (drop_all {X = C} (i * p) [] q, take-nil {A = C} p)

    empty : (d : Device) → ((i : ℕ) → d i ≡ replicate 512 0) → Reads d []
    unfolding ran_by every
    empty d z = (
      record { epoch = 0; base = b.new; log = [] },
      record {
        sound = record { oks = refl; short = omega arith; small = omega arith; based = o.begins; ends = o.begins };
        oks = refl;
        same = refl;
        tag_is = ap f.tag (z 0) ∙ v.tag_none;
        mine = λ i l. ap f.own (z i) ∙ v.own_none;
        tags = λ i l. omega (arith, ap f.tag (z i) ∙ v.tag_none);
        log_is = λ i l.
            let t : eqb (f.tag (replicate 512 0)) 0 ≡ true = eq-eqb (f.tag (replicate 512 0)) 0 v.tag_none in
            rw (z i, t, v.calls_none) (sym (no_calls i));
        bytes = λ i l m. absurd (omega (arith, ap length (no_calls i)));
        base_is = inl (refl, refl);
      },
    )

    -- THE THEOREM
    pub checkpointed_keeps : (fit : C → Bool) → Keeps b (program_of Q) r fit ok asks Reads
    checkpointed_keeps fit = plan_keeps b Q r fit ok asks Reads On Fine (λ s. length s.log) empty steps (bounds fit)
