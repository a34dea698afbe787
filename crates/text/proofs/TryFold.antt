-- What `try_fold` gives over a list, with a closure that gives an option.
use Rattle.std.proofs.Common.{◌≡◌, List, [], ◌∷◌, Some, None, Option, ControlFlow, sym, ap, subst, ◌∙◌}
use Rattle.std.specs.ControlFlow.{continue_value}
use Rattle.std.specs.Fn.{Called}
use Rattle.std.specs.Iterator.{AlwaysYields, TryFoldTurn, TryFoldsItems, Yields}
use Rattle.std.specs.List.{FoldsTo}
use Rattle.std.specs.Option.{MatchOption, option_and_then}
use Rattle.std.proofs.lemmas.Iterator.{YieldsList}
use denote.Param.Members.{Mut}

-- the total of a list, if each step goes on
abbrev pub try_list : {B C : Type 0} → (C → B → Option C) → C → List B → Option C
try_list h a [] = Some a
try_list h a (y ∷ ys) = option_and_then (λ c. try_list h c ys) (h a y)

abbrev goes_on : {C E : Type 0} → Option C → ControlFlow E C → Type 0
goes_on o b = o ≡ continue_value b

module _ {S A B C F : Type 0} (E : Type 0) (steps : S → Option A → S → Type 0) (v : A → B) (g : Mut F (C × (A × Unit {0})) (Option C)) (h : C → B → Option C) {f : F}
    (each : (a : C) (x : A) (o : Option C) (q : F) → Called g f (a, (x, tt)) o q → (q ≡ f) × (o ≡ h a (v x))) where
  turned : (xs : List A) (all : List B) (o : Option A) (s t u : S) (f' : F) (init a : C) (r : Option C) → AlwaysYields steps v s all → Yields steps s xs t → steps t o u →
      FoldsTo {P = F × C} (TryFoldTurn {E = E} g goes_on) (f, init) xs (f', a) →
      MatchOption o (r ≡ Some a) (λ x. (w : Option C) × (q : F) × (e : E) × Called g f' (a, (x, tt)) w q × (w ≡ None) × (r ≡ None)) → r ≡ try_list h init all
  turned [] [] None s t u f' init a r k p q fo m = m ∙ ap Some (ap (λ z. z.1) (sym fo))
  turned [] (y ∷ ys) None s t u f' init a r k p q fo m = absurd (k.0 u (subst (λ z. steps z None u) (sym p) q))
  turned [] [] (Some x) s t u f' init a r k p q fo m = absurd (k x u (subst (λ z. steps z (Some x) u) (sym p) q))
  turned [] (y ∷ ys) (Some x) s t u f' init a r k p q fo (w, q', e, called, none, is) =
      let same : v x ≡ y = (k.1 x u (subst (λ z. steps z (Some x) u) (sym p) q)).0 in
      let gave = each init x w q' (subst (λ z. Called g z.0 (z.1, (x, tt)) w q') (sym fo) called) in
      is ∙ ap (option_and_then (λ c. try_list h c ys)) (sym none ∙ gave.1 ∙ ap (h init) same)
  turned (x ∷ xs) [] o s t u f' init a r k p q fo m = absurd (k x p.0 p.1)
  turned (x ∷ xs) (y ∷ ys) o s t u f' init a r k (j, first, more) q (z, (w, called, goes), fo) m =
      let next = k.1 x j first in
      let gave = each init x w z.0 called in
      turned xs ys o j t u f' z.1 a r next.1 more q (subst (λ d. FoldsTo {P = F × C} (TryFoldTurn {E = E} g goes_on) (d, z.1) xs (f', a)) gave.0 fo) m
      ∙ ap (option_and_then (λ c. try_list h c ys)) (sym goes ∙ gave.1 ∙ ap (h init) next.0)

  pub try_folded : (init : C) (r : Option C) {s : S} (u : S) {all : List B} → YieldsList steps v s all →
      TryFoldsItems steps g goes_on (λ (_ : E) (o : Option C). o ≡ None) s f init r u → r ≡ try_list h init all
  try_folded init r {s} u {all} yields (xs, o, f', a, (t, p, q), fo, m) = turned xs all o s t u f' init a r yields.runs p q fo m
