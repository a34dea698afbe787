-- Acts done one after the other, and what a cut after them may leave.
use Rattle.std.proofs.Common.{◌≡◌, ℕ, zero, suc, Bool, true, false, eqb, ◌⊎◌, List, [], ◌∷◌, ◌++◌, sym, refl, ap, ◌∙◌, subst, inl, inr, eqb-true}
use Rattle.device.specs.Device.{Device, Act, write, flush, say, pick, safe, since_flush, HasWritten, LeftBy}
use Rattle.device.specs.Plan.{Write, writes, put_all, Among}
use Rattle.sim.specs.Held.{Held, at_rest, done, dones}
use Rattle.sim.specs.Cut.{bytes_to, chosen, number_for, cut_by}
use Rattle.sim.proofs.Writes.{put_all_push}

-- what is chosen is what was there, or what one of the writes put there
pub chosen_among : (k n : ℕ) (ws : List Write) (old : List ℕ) → (chosen n (bytes_to k ws) old ≡ old) ⊎ Among k (chosen n (bytes_to k ws) old) ws
unfolding chosen bytes_to Among
chosen_among k zero ws old = inl refl
chosen_among k (suc n) [] old = inl refl
chosen_among k (suc n) (w ∷ ws) old = go (eqb w.block k) refl (chosen_among k n ws w.bytes) (chosen_among k (suc n) ws old)
  where
    go : (t : Bool) → eqb w.block k ≡ t → (chosen n (bytes_to k ws) w.bytes ≡ w.bytes) ⊎ Among k (chosen n (bytes_to k ws) w.bytes) ws →
        (chosen (suc n) (bytes_to k ws) old ≡ old) ⊎ Among k (chosen (suc n) (bytes_to k ws) old) ws →
        (chosen (suc n) (pick t (w.bytes ∷ bytes_to k ws) (bytes_to k ws)) old ≡ old)
        ⊎ (((w.block ≡ k) × (w.bytes ≡ chosen (suc n) (pick t (w.bytes ∷ bytes_to k ws) (bytes_to k ws)) old))
        ⊎ Among k (chosen (suc n) (pick t (w.bytes ∷ bytes_to k ws) (bytes_to k ws)) old) ws)
    go true e (inl q) h = inr (inl (eqb-true w.block k e, sym q))
    go true e (inr q) h = inr (inr q)
    go false e h (inl q) = inl q
    go false e h (inr q) = inr (inr q)

module _ (A : Type 0) where
  pub dones-++ : (h : Held) (xs ys : List (Act A)) → dones h (xs ++ ys) ≡ dones (dones h xs) ys
  unfolding dones
  dones-++ h [] ys = refl
  dones-++ h (x ∷ xs) ys = dones-++ (done h x) xs ys

  writes_snoc : (ws : List Write) (w : Write) → writes {A = A} (ws ++ (w ∷ [])) ≡ writes ws ++ (write w.block w.bytes ∷ [])
  unfolding writes
  writes_snoc [] w = refl
  writes_snoc (x ∷ ws) w = ap (λ (r : List (Act A)). write x.block x.bytes ∷ r) (writes_snoc ws w)

  -- what is safe after some acts, and what is not yet
  pub durable_dones : (h : Held) (xs : List (Act A)) → (dones h xs).durable ≡ safe h.durable (put_all h.durable h.pending) xs
  unfolding dones done safe
  durable_dones h [] = refl
  durable_dones h (write k bs ∷ xs) =
      durable_dones (done {A = A} h (write k bs)) xs ∙ ap (λ (e : Device). safe h.durable e xs) (put_all_push h.durable h.pending (record { block = k; bytes = bs }))
  durable_dones h (flush ∷ xs) = durable_dones (done {A = A} h flush) xs ∙ (unfold put_all in refl)
  durable_dones h (say a ∷ xs) = durable_dones h xs

  pub pending_dones : (h : Held) (xs : List (Act A)) → writes (dones h xs).pending ≡ since_flush (writes h.pending) xs
  unfolding dones done since_flush
  pending_dones h [] = refl
  pending_dones h (write k bs ∷ xs) =
      pending_dones (done {A = A} h (write k bs)) xs ∙ ap (λ (w : List (Act A)). since_flush w xs) (writes_snoc h.pending (record { block = k; bytes = bs }))
  pending_dones h (flush ∷ xs) = pending_dones (done {A = A} h flush) xs ∙ (unfold writes in refl)
  pending_dones h (say a ∷ xs) = pending_dones h xs

  among_wrote : (k : ℕ) (bs : List ℕ) (ws : List Write) → Among k bs ws → HasWritten k bs (writes {A = A} ws)
  unfolding HasWritten writes Among
  among_wrote k bs [] h = h
  among_wrote k bs (w ∷ ws) (inl h) = inl h
  among_wrote k bs (w ∷ ws) (inr h) = inr (among_wrote k bs ws h)

  -- a device on which everything was safe, after some acts and a cut by any row: what is left is left by these acts
  pub cut_left : (d : Device) (xs : List (Act A)) (h : Held) (row : List ℕ) → h ≡ dones (at_rest d) xs → LeftBy d xs (cut_by row h)
  unfolding LeftBy
  cut_left d xs h row s k = go (chosen_among k (number_for row h.pending k) h.pending (h.durable k))
    where
      safe_is : h.durable ≡ safe d d xs
      safe_is = ap (λ (g : Held). g.durable) s ∙ durable_dones (at_rest d) xs ∙ (unfold put_all in refl)

      since_is : writes {A = A} h.pending ≡ since_flush [] xs
      since_is = ap (λ (g : Held). writes {A = A} g.pending) s ∙ pending_dones (at_rest d) xs ∙ (unfold writes in refl)

      go : (cut_by row h k ≡ h.durable k) ⊎ Among k (cut_by row h k) h.pending → (cut_by row h k ≡ safe d d xs k) ⊎ HasWritten k (cut_by row h k) (since_flush [] xs)
      go (inl q) = inl (q ∙ ap (λ (g : Device). g k) safe_is)
      go (inr q) = inr (subst (λ (ys : List (Act A)). HasWritten k (cut_by row h k) ys) since_is (among_wrote k (cut_by row h k) h.pending q))
