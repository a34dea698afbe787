-- Going over the writes, from the first to the last: what is still to come, and what those that came left.
use Rattle.std.proofs.Common.{◌≡◌, ℕ, suc, ◌+◌, ◌-◌, ◌*◌, ◌<◌, ◌≤◌, Bool, true, false, cond, eqb, ltb, ◌⊎◌, List, [], ◌∷◌, ◌++◌, length, get_or, take, drop, sym, refl, ap, ◌∙◌, inl, inr, eqb-true, add-one, arith}
use Rattle.std.proofs.lemmas.Bool.{ltb-true, ltb-false}
use Rattle.std.proofs.lemmas.Bool.Decides.{nat_tests}
use Rattle.std.proofs.lemmas.List.{length-append, length-drop, take_at, drop_at, drop_more, nil_from_length}
use Rattle.std.proofs.lemmas.List.Sums.{sum_by_more}
use Rattle.device.specs.Device.{Device, pick, put}
use Rattle.device.specs.Plan.{put_all}
use Rattle.blocks.specs.Blocks.{put_block, device_of}
use Rattle.blocks.proofs.Blocks.{device_put}
use Rattle.sim.specs.Cut.{times, turn, left_of, bytes_to, chosen, cut_by, blocks_of, writes_in}
use Rattle.sim.proofs.Writes.{blocks_writes, chosen_none}

-- writes that are still to be put into an image: each is whole, and goes into it
pub record ToCome (image places blocks : List ℕ) (size : ℕ) : Type 0 where
  pub sized : size ≡ 512
  pub whole : 512 * length places ≤ length blocks
  pub inside : (i : ℕ) → i < length places → 512 * get_or places i 0 + 512 ≤ length image

-- the first of them goes to block k, and is the bytes b
module _ (image ks bs ks' bs' b : List ℕ) (k n : ℕ) (t : ToCome image ks bs n) (e : ks ≡ k ∷ ks') (f : bs ≡ b ++ bs') (w : length b ≡ n) where
  pub first_inside : 512 * k + 512 ≤ length image
  first_inside = let h = t.inside 0 (omega (arith, ap length e)) in let g : get_or ks 0 0 ≡ k = ap (λ xs. get_or xs 0 0) e in omega (arith, g, h)

  first_whole : length b ≡ 512
  first_whole = w ∙ t.sized

  pub others_to_come : (more : List ℕ) (m : ℕ) → m ≡ n → length more ≡ length image → ToCome more ks' bs' m
  others_to_come more m s l = record {
    sized = s ∙ t.sized;
    whole = omega (arith, first_whole, t.whole, ap length e, ap length f, length-append b bs');
    inside = λ i lt. let h = t.inside (i + 1) (omega (arith, ap length e)) in let g : get_or ks (i + 1) 0 ≡ get_or ks' i 0 = rw (e, add-one) in omega (arith, g, h, l);
  }

  first_of : writes_in ks bs ≡ record { block = k; bytes = b } ∷ writes_in ks' bs'
  first_of = rw (e, f, take_at b bs' 512 first_whole, drop_at b bs' 512 first_whole) refl

  put_is : (more : List ℕ) → more ≡ put_block k b image → device_of more ≡ put (device_of image) k b
  put_is more p = ap device_of p ∙ device_put k b image first_inside first_whole

  -- it is put, and it is as if all were
  pub put_first : (more : List ℕ) → more ≡ put_block k b image → put_all (device_of more) (writes_in ks' bs') ≡ put_all (device_of image) (writes_in ks bs)
  put_first more p = ap (λ (d : Device). put_all d (writes_in ks' bs')) (put_is more p) ∙ sym (ap (put_all (device_of image)) first_of ∙ (unfold put_all in refl))

-- where no place or no whole block is left, all were put
module _ (image ks bs : List ℕ) (n : ℕ) (t : ToCome image ks bs n) (over : (length ks ≡ 0) ⊎ (length bs < n)) where
  none_to_come : writes_in ks bs ≡ []
  none_to_come = ap (λ xs. writes_in xs bs) (nil_from_length ks (elim over [ inl e ↦ e | inr l ↦ omega (arith, t.sized, t.whole) ]))

  pub all_put : (d : Device) → d ≡ put_all d (writes_in ks bs)
  all_put d = sym (ap (put_all d) none_to_come ∙ (unfold put_all in refl))

  pub all_left : (m k : ℕ) (old : List ℕ) → old ≡ chosen m (bytes_to k (writes_in ks bs)) old
  all_left m k old = sym (ap (λ ws. chosen m (bytes_to k ws) old) none_to_come ∙ (unfold bytes_to in chosen_none m old))

-- a write counts for its own block, where there were fewer than the row says
one_more : (number m m' : ℕ) (s t : Bool) (v : List ℕ) (vs : List (List ℕ)) (old new : List ℕ) → (t ≡ true → s ≡ ltb m number) → m' ≡ m + cond t 1 0 → new ≡ pick s (pick t v old) old →
    chosen (number - m') vs new ≡ chosen (number - m) (pick t (v ∷ vs) vs) old
unfolding chosen
one_more number m m' true false v vs old new l n q = let e : m' ≡ m = omega arith in rw (q, e)
one_more number m m' false false v vs old new l n q = let e : m' ≡ m = omega arith in rw (q, e)
one_more number m m' true true v vs old new l n q =
    let lt : m < number = ltb-true m number (sym (l refl)) in
    let e : number - m ≡ suc (number - m') = omega arith in rw (q, e)
one_more number m m' false true v vs old new l n q =
    let le : number ≤ m = ltb-false m number (sym (l refl)) in
    let e : number - m ≡ 0 = omega arith in
    let f : number - m' ≡ 0 = omega arith in rw (q, e, f)

flip : (j k : ℕ) → eqb j k ≡ eqb k j
flip j k = grind (arith, nat_tests)

-- a cut by a row has come to the i-th write, and left is what will be left: of those to come as many count as the row says, less those before
pub record Cutting (row places : List ℕ) (left : Device) (image ks bs : List ℕ) (size i : ℕ) : Type 0 where
  pub to_come : ToCome image ks bs size
  pub here : ks ≡ drop i places
  pub counted : (j : ℕ) → chosen (get_or row (turn j places) 0 - times j (take i places)) (bytes_to j (writes_in ks bs)) (device_of image j) ≡ left j

module _ {row places : List ℕ} {left : Device} {image ks bs ks' : List ℕ} (bs' b : List ℕ) {k n i : ℕ} (c : Cutting row places left image ks bs n i) (e : ks ≡ k ∷ ks') (f : bs ≡ b ++ bs') (w : length b ≡ n) where
  lies : i < length places
  lies = omega (arith, ap length (sym e ∙ c.here), length-drop i places)

  place_is : get_or places i 0 ≡ k
  place_is = ap (λ xs. get_or xs 0 0) (sym (drop_more places i 0 lies) ∙ sym c.here ∙ e)

  module _ {m i' x : ℕ} (s : m ≡ n) (next : i' ≡ i + 1) (now : x ≡ i) where
    go_on : (t : Bool) (more : List ℕ) → t ≡ left_of row places x → length more ≡ length image → device_of more ≡ pick t (put (device_of image) k b) (device_of image) → Cutting row places left more ks' bs' m i'
    unfolding bytes_to
    go_on t more l len p = record {
      to_come = others_to_come image ks bs ks' bs' b k n c.to_come e f w more m s len;
      here = ap (drop 1) (sym e ∙ c.here ∙ drop_more places i 0 lies) ∙ ap (λ y. drop y places) (sym next);
      counted = λ j. counted_on j ∙ c.counted j;
    }
      where
        put_at : (j : ℕ) (u : Bool) → pick u (put (device_of image) k b) (device_of image) j ≡ pick u (pick (eqb k j) b (device_of image j)) (device_of image j)
        put_at j true = ap (λ r. pick r b (device_of image j)) (flip j k)
        put_at j false = refl

        counted_on : (j : ℕ) → chosen (get_or row (turn j places) 0 - times j (take i' places)) (bytes_to j (writes_in ks' bs')) (device_of more j)
            ≡ chosen (get_or row (turn j places) 0 - times j (take i places)) (bytes_to j (writes_in ks bs)) (device_of image j)
        counted_on j =
            let o : eqb k j ≡ true → t ≡ ltb (times j (take i places)) (get_or row (turn j places) 0) =
            λ q. l ∙ ap (left_of row places) now ∙ ap (λ y. ltb (times y (take i places)) (get_or row (turn y places) 0)) (place_is ∙ eqb-true k j q) in
            let h : times j (take i' places) ≡ times j (take i places) + cond (eqb k j) 1 0 =
            ap (λ y. times j (take y places)) next ∙ sum_by_more (λ y. cond (eqb y j) 1 0) places i 0 lies ∙ ap (λ y. times j (take i places) + cond (eqb y j) 1 0) place_is in
            let d : device_of more j ≡ pick t (pick (eqb k j) b (device_of image j)) (device_of image j) = ap (λ (g : Device). g j) p ∙ put_at j t in
            one_more _ _ _ t (eqb k j) b (bytes_to j (writes_in ks' bs')) (device_of image j) (device_of more j) o h d
            ∙ ap (λ ws. chosen (get_or row (turn j places) 0 - times j (take i places)) (bytes_to j ws) (device_of image j)) (sym (first_of image ks bs ks' bs' b k n c.to_come e f w))

    -- the write is left
    pub write_left : (more : List ℕ) → true ≡ left_of row places x → length more ≡ length image → more ≡ put_block k b image → Cutting row places left more ks' bs' m i'
    write_left more l len p = go_on true more l len (put_is image ks bs ks' bs' b k n c.to_come e f w more p)

    -- it is lost
    pub write_lost : false ≡ left_of row places x → Cutting row places left image ks' bs' m i'
    write_lost l = go_on false image l refl refl

pub cut_done : {row places : List ℕ} {left : Device} {image ks bs : List ℕ} {n i : ℕ} (c : Cutting row places left image ks bs n i) → (length ks ≡ 0) ⊎ (length bs < n) → (j : ℕ) → device_of image j ≡ left j
cut_done {row} {places} {left} {image} {ks} {bs} {n} {i} c over j = all_left image ks bs n c.to_come over (get_or row (turn j places) 0 - times j (take i places)) j (device_of image j) ∙ c.counted j

-- before the first of them, all are to come
module _ (image places blocks ks bs : List ℕ) (size : ℕ) (e : ks ≡ places) (f : bs ≡ blocks) (s : size ≡ 512) (w : 512 * length places ≤ length blocks)
    (h : (i : ℕ) → i < length places → 512 * get_or places i 0 + 512 ≤ length image) where
  all_to_come : ToCome image ks bs size
  all_to_come =
      let l : length ks ≡ length places = ap length e in
      record {
        sized = s;
        whole = omega (arith, l, ap length f);
        inside = λ i lt. let g : get_or ks i 0 ≡ get_or places i 0 = ap (λ xs. get_or xs i 0) e in omega (arith, g, h i (omega (arith, l)));
      }

  pub cut_begun : (row : List ℕ) (i : ℕ) → i ≡ 0 → Cutting row places (cut_by row (record { durable = device_of image; pending = writes_in places blocks })) image ks bs size i
  cut_begun row i z = record {
    to_come = all_to_come;
    here = e ∙ ap (λ y. drop y places) (sym z);
    counted = λ j.
        let t : times j (take i places) ≡ 0 = ap (λ m. times j (take m places)) z in
        let b : get_or row (turn j (blocks_of (writes_in places blocks))) 0 ≡ get_or row (turn j places) 0 = ap (λ ps. get_or row (turn j ps) 0) (blocks_writes places blocks) in
        let m : get_or row (turn j places) 0 - times j (take i places) ≡ get_or row (turn j (blocks_of (writes_in places blocks))) 0 = omega (arith, t, b) in
        rw (m, e, f) refl;
  }
