-- What `find_map` gives over a list, and what it may call.
use Rattle.std.proofs.Common.{◌≡◌, ℕ, zero, suc, ◌+◌, ◌<◌, List, [], ◌∷◌, length, get_or, map, Some, None, Option, sym, refl, ap, subst, ◌∙◌, arith}
use Rattle.std.specs.Bool.{IsTrue}
use Rattle.std.specs.Fn.{Called}
use Rattle.std.specs.Iterator.{AlwaysYields, CallableAtEachTurn, DrainsIf, FindsMapped, Yields}
use Rattle.std.specs.Iterator.Runs.{SomeRun, AllItemsGive, IsFirstToGive, YieldsRun}
use Rattle.std.specs.List.{AllByRecursion, FoldsTo, slice_get}
use Rattle.std.specs.Option.{MatchOption, IfSome, option_map, option_or}
use Rattle.std.proofs.lemmas.Iterator.{YieldsList, items_from_drains}
use Rattle.std.proofs.lemmas.Iterator.Adapters.{serves_from_places}
use denote.Param.Members.{Mut}

-- the first that h gives over a list
abbrev pub first_of : {B C : Type 0} → (B → Option C) → List B → Option C
first_of h [] = None
first_of h (y ∷ ys) = option_or (h y) (first_of h ys)

module _ {S A B C R F : Type 0} (steps : S → Option A → S → Type 0) (v : A → B) (g : Mut F (A × Unit {0}) (Option R)) (w : R → C) (h : B → Option C) {f : F}
    (each : (x : A) (o : Option R) (q : F) → Called g f (x, tt) o q → (q ≡ f) × (option_map w o ≡ h (v x))) where
  -- it stopped at an item
  at_item : (xs : List A) (all : List B) (o : Option A) (s t u : S) (f' : F) (r : R) → AlwaysYields steps v s all → Yields steps s xs t → steps t o u →
      FoldsTo (λ p x q. Called g p (x, tt) None q) f xs f' → MatchOption o (Some r ≡ None) (λ x. (q : F) × Called g f' (x, tt) (Some r) q) → Some (w r) ≡ first_of h all
  at_item xs all None s t u f' r k p q fo m = absurd (cc)
  at_item [] [] (Some x) s t u f' r k p q fo m = absurd (k x u (subst (λ z. steps z (Some x) u) (sym p) q))
  at_item [] (y ∷ ys) (Some x) s t u f' r k p q fo (q', called) =
      let same : v x ≡ y = (k.1 x u (subst (λ z. steps z (Some x) u) (sym p) q)).0 in
      let gave = each x (Some r) q' (subst (λ z. Called g z (x, tt) (Some r) q') (sym fo) called) in
      ap (λ c. option_or c (first_of h ys)) (gave.1 ∙ ap h same)
  at_item (x ∷ xs) [] (Some z) s t u f' r k p q fo m = absurd (k x p.0 p.1)
  at_item (x ∷ xs) (y ∷ ys) (Some z) s t u f' r k (j, first, more) q (f'', called, fo) m =
      let next = k.1 x j first in
      let gave = each x None f'' called in
      at_item xs ys (Some z) j t u f' r next.1 more q (subst (λ d. FoldsTo (λ p x q. Called g p (x, tt) None q) d xs f') gave.0 fo) m
      ∙ ap (λ c. option_or c (first_of h ys)) (gave.1 ∙ ap h next.0)

  -- it came to the end
  no_item : (xs : List A) → ((k : ℕ) → IfSome (slice_get xs k) (λ x. Called g f (x, tt) None f)) → None ≡ first_of h (map v xs)
  no_item [] m = refl
  no_item (x ∷ xs) m = no_item xs (λ k. m (suc k)) ∙ ap (λ c. option_or c (first_of h (map v xs))) (each x None f (m zero)).1

  pub first_found : (r : Option R) {s : S} (u : S) {all : List B} → YieldsList steps v s all → FindsMapped steps g s f r u →
      SomeRun steps s (λ p. MatchOption r (IsTrue p.whole × AllItemsGive p g f None) (λ y. (i : ℕ) × (i < p.len) × (p.len ≡ i + 1) × IsFirstToGive p g f (Some y) None i)) →
      option_map w r ≡ first_of h all
  unfolding YieldsRun
  first_found (Some r) {s} u {all} road (xs, o, f', (t, p, q), fo, m) run = at_item xs all o s t u f' r road.runs p q fo m
  first_found None {s} u {all} road ran (p, from, (whole, each_none)) =
      let drained : DrainsIf steps (Unit {0}) s p.items =
      subst (λ z. DrainsIf steps (Unit {0}) z p.items) from (p.gave.0.0, p.gave.0.1, λ _. p.gave.0.2 whole) in
      let none : (k : ℕ) → IfSome (slice_get p.items k) (λ x. Called g f (x, tt) None f) =
      λ k. subst (λ o. IfSome o (λ x. Called g f (x, tt) None f)) (p.gave.1 k) (each_none (λ a r q called. (each a.0 r q called).0) k) in
      no_item p.items none ∙ ap (first_of h) (items_from_drains p.items drained road)

-- it may call what takes each item of the list
all_at : {B : Type 0} (P : B → Type 0) (ys : List B) (k : ℕ) (d : B) → AllByRecursion P ys → k < length ys → P (get_or ys k d)
all_at P [] k d all h = absurd (omega arith)
all_at P (y ∷ ys) zero d all h = all.0
all_at P (y ∷ ys) (suc k) d all h = all_at P ys k d all.1 (omega arith)

module _ {S A B F : Type 0} {steps : S → Option A → S → Type 0} {v : A → B} {s : S} {all : List B} {R : F → A → F → Type 0} {Q : F → A → Type 0} {f : F} where
  pub serves_all : (P : B → Type 0) → YieldsList steps v s all → AllByRecursion P all → ((x : A) (q : F) → R f x q → q ≡ f) → ((x : A) → P (v x) → Q f x) → CallableAtEachTurn steps R Q s f
  serves_all P road each keeps takes = serves_from_places road keeps (λ x k l e. takes x (subst P (sym e) (all_at P all k (v x) each l)))
