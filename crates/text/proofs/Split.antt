-- Laws of the first word of a line.
use Rattle.std.proofs.Common.{◌≡◌, ℕ, suc, ◌+◌, ◌<◌, ◌≤◌, Bool, ltb, true, false, not, List, [], ◌∷◌, ◌++◌, length, get_or, take, drop, sym, refl, ap, ◌∙◌, append_assoc, arith, add-zero, length-drop, cond, Some, None}
use borrow.Author.Tests.{not-true}
use Rattle.std.specs.Prelude.{position}
use Rattle.std.specs.List.{position_or_len}
use Rattle.std.specs.Option.{unwrap_or}
use Rattle.std.proofs.lemmas.List.{append-nil, drop_all, get_or-drop}
use Rattle.std.proofs.lemmas.List.Sums.{passes_at_first, prefix_len-le-length}
use Rattle.text.specs.Words.{blank, ended, words, words_on}

-- how many blanks a line begins with, and how many bytes that are none
abbrev blanks : List ℕ → ℕ
blanks line = position_or_len (λ b. not (blank b)) line

abbrev letters : List ℕ → ℕ
letters line = position_or_len blank line

after : (k : ℕ) → suc k ≡ 1 + k
after k = omega arith

-- blanks in front are passed over
passed : (line : List ℕ) → words line ≡ words (drop (blanks line) line)
unfolding words_on
passed [] = refl
passed (b ∷ line) = at (blank b) refl (passed line)
  where
    at : (t : Bool) → blank b ≡ t → words line ≡ words (drop (blanks line) line) → words (b ∷ line) ≡ words (drop (blanks (b ∷ line)) (b ∷ line))
    at true e more = rw e (more ∙ ap (λ k. words (drop k (b ∷ line))) (after (blanks line)))
    at false e more = rw (e, e) refl

-- the word that has begun ends at the first blank, or with the line
begun : (w line : List ℕ) → words_on w line ≡ ended (w ++ take (letters line) line) (words (drop (letters line) line))
unfolding words_on
begun w [] = rw (append-nil w) refl
begun w (b ∷ line) = at (blank b) refl (begun (w ++ (b ∷ [])) line)
  where
    at : (t : Bool) → blank b ≡ t → words_on (w ++ (b ∷ [])) line ≡ ended ((w ++ (b ∷ [])) ++ take (letters line) line) (words (drop (letters line) line)) →
        words_on w (b ∷ line) ≡ ended (w ++ take (letters (b ∷ line)) (b ∷ line)) (words (drop (letters (b ∷ line)) (b ∷ line)))
    at true e more = rw (e, e, append-nil w) refl
    at false e more = rw e (more ∙ ap (λ v. ended v (words (drop (letters line) line))) (append_assoc w (b ∷ []) (take (letters line) line))
        ∙ ap (λ k. ended (w ++ take k (b ∷ line)) (words (drop k (b ∷ line)))) (after (letters line)))

-- a line that begins with a word
started : (line : List ℕ) → 0 < length line → blank (get_or line 0 0) ≡ false → words line ≡ take (letters line) line ∷ words (drop (letters line) line)
unfolding words_on
started [] some e = absurd (omega arith)
started (b ∷ line) some e =
    rw e (begun (b ∷ []) line ∙ ap (λ k. take k (b ∷ line) ∷ words (drop k (b ∷ line))) (after (letters line)))

-- the place that a search says
module _ (n l : ℕ) (within : n ≤ l) where
  missed : None ≡ cond (ltb n l) (Some n) None → l ≤ n
  missed h = grind arith

  hit : (i : ℕ) → Some i ≡ cond (ltb n l) (Some n) None → (i ≡ n) × (n < l)
  hit i h = grind arith

  or_end : unwrap_or (cond (ltb n l) (Some n) None) l ≡ n
  or_end = grind arith

-- a line with no other byte than blanks has no words
pub no_word : (line : List ℕ) → None ≡ position (λ b. not (blank b)) line → words line ≡ []
unfolding words_on
no_word line h =
    let long : length line ≤ blanks line = missed (blanks line) (length line) (prefix_len-le-length (λ b. not (not (blank b))) line) h in
    passed line ∙ ap words (drop_all (blanks line) line long)

-- and else the first is what stands up to the next blank
pub one_word : (line rest : List ℕ) (i n : ℕ) → Some i ≡ position (λ b. not (blank b)) line → rest ≡ drop i line → n ≡ unwrap_or (position blank rest) (length rest) →
    words line ≡ take n rest ∷ words (drop n rest)
one_word line rest i n h is e =
    let found = hit (blanks line) (length line) (prefix_len-le-length (λ b. not (not (blank b))) line) i h in
    let some : 0 < length rest = rw is (simp length-drop (omega (arith, found.0, found.1))) in
    let plain : blank (get_or rest 0 0) ≡ false =
    ap (λ xs. blank (get_or xs 0 0)) is ∙ ap blank (get_or-drop i line 0 0 ∙ ap (λ k. get_or line k 0) (add-zero i ∙ found.0))
    ∙ not-true (blank (get_or line (blanks line) 0)) (passes_at_first (λ b. not (blank b)) line 0 found.1) in
    let same : letters rest ≡ n = sym (e ∙ or_end (letters rest) (length rest) (prefix_len-le-length (λ b. not (blank b)) rest)) in
    passed line ∙ ap (λ k. words (drop k line)) (sym found.0) ∙ ap words (sym is) ∙ started rest some plain ∙ ap (λ k. take k rest ∷ words (drop k rest)) same
