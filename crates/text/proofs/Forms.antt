-- Laws of the words of a line, read one behind another: the numbers so far, and those that what is left gives.
use Rattle.std.proofs.Common.{◌≡◌, ℕ, ◌<◌, ◌≤◌, Bool, true, false, leb, List, [], ◌∷◌, ◌++◌, length, Some, None, Option, sym, refl, ap, ◌∙◌, append_assoc, le-leb}
use borrow.Author.Tests.{lt-leb}
use Rattle.std.proofs.lemmas.List.{append-nil}
use Rattle.bank.specs.Book.{pick}
use Rattle.text.specs.Words.{word_number}
use Rattle.text.specs.Lines.{Matched, all_numbers, behind, few_numbers, followed, form_numbers, matched}

-- one number more in front of others
behind_more : (ns : List ℕ) (n : ℕ) (o : Option (List ℕ)) → behind ns (followed (Some n) o) ≡ behind (ns ++ (n ∷ [])) o
behind_more ns n None = refl
behind_more ns n (Some ms) = ap Some (sym (append_assoc ns (n ∷ []) ms))

-- the words of a line of numbers
module _ (all : Option (List ℕ)) (ns : List ℕ) (ws : List (List ℕ)) (inv : all ≡ behind ns (all_numbers ws)) where
  module _ (w : List ℕ) (vs : List (List ℕ)) (p : ws ≡ w ∷ vs) where
    pub number_more : (n : ℕ) → Some n ≡ word_number w → all ≡ behind (ns ++ (n ∷ [])) (all_numbers vs)
    unfolding all_numbers
    number_more n e = inv ∙ rw p (rw (← e) (behind_more ns n (all_numbers vs)))

    pub number_none : None ≡ word_number w → None ≡ all
    unfolding all_numbers
    number_none e = sym (inv ∙ rw p (rw (← e) refl))

  pub number_all : ws ≡ [] → Some ns ≡ all
  unfolding all_numbers
  number_all p = sym (inv ∙ rw p (ap Some (append-nil ns)))

-- few enough of them, too many, and none either way
module _ (ws : List (List ℕ)) where
  pub few : length ws ≤ 9 → few_numbers ws ≡ all_numbers ws
  few h = ap (λ t. pick t (all_numbers ws) None) (le-leb (length ws) 9 h)

  pub many : 9 < length ws → None ≡ few_numbers ws
  many h = sym (ap (λ t. pick t (all_numbers ws) None) (lt-leb (length ws) 9 h))

  pub neither : None ≡ all_numbers ws → None ≡ few_numbers ws
  neither e = either (leb (length ws) 9) ∙ ap (λ o. pick (leb (length ws) 9) o None) e
    where
      either : (t : Bool) → None ≡ pick {A = Option (List ℕ)} t None None
      either true = refl
      either false = refl

-- and those of a line by a form
module _ (all : Option (List ℕ)) (ns : List ℕ) (fs ws : List (List ℕ)) (inv : all ≡ behind ns (form_numbers fs ws)) where
  pub line_short : (f : List ℕ) (gs : List (List ℕ)) → fs ≡ f ∷ gs → ws ≡ [] → None ≡ all
  unfolding form_numbers
  line_short f gs p q = sym (inv ∙ rw (p, q) refl)

  pub line_long : (w : List ℕ) (vs : List (List ℕ)) → fs ≡ [] → ws ≡ w ∷ vs → None ≡ all
  unfolding form_numbers
  line_long w vs p q = sym (inv ∙ rw (p, q) refl)

  pub all_read : fs ≡ [] → ws ≡ [] → Some ns ≡ all
  unfolding form_numbers
  all_read p q = sym (inv ∙ rw (p, q) (ap Some (append-nil ns)))

  module _ (f w : List ℕ) (gs vs : List (List ℕ)) (p : fs ≡ f ∷ gs) (q : ws ≡ w ∷ vs) where
    here : form_numbers fs ws ≡ matched f w (form_numbers gs vs)
    unfolding form_numbers
    here = rw (p, q) refl

    pub unmatched : (ms : List ℕ) → Matched ns f w ms None → None ≡ all
    unmatched ms h = sym (inv ∙ ap (behind ns) (here ∙ h (form_numbers gs vs)))

    pub more_matched : (ms : List ℕ) → Matched ns f w ms (Some tt) → all ≡ behind ms (form_numbers gs vs)
    more_matched ms h = inv ∙ ap (behind ns) here ∙ h (form_numbers gs vs)
