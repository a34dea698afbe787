-- Going through the checks of a call in their order: it is turned away by the first that fails, or it is taken when all have passed.
use Rattle.std.proofs.Common.{◌≡◌, ℕ, ◌<◌, ◌≤◌, Bool, true, false, not, ◌&&◌, eqb, List, [], ◌∷◌, refl, ap, ◌∙◌, arith}
use Rattle.std.proofs.lemmas.Bool.{eq-eqb, ne_eqb}
use Rattle.bank.specs.Book.{pick, Bank}
use Rattle.bank.specs.Calls.{Call, refused, Limits, turned, place, changed, after, told, answer}
use Rattle.bank.specs.Promise.{asks}
use Rattle.bank.specs.Checks.{Check, fails, fails_at}
use Rattle.bank.specs.Count.{changes}
use Rattle.bank.specs.Room.{ReachedUnder, room_checks}
use Rattle.bank.proofs.Room.{room_decides}

-- a call that is turned away by number t at place p
pub record Turned (l : Limits) (n : Bank) (c : Call) (t p : ℕ) : Type 0 where
  pub away : answer l n c ≡ refused t p
  pub same : after l n c ≡ n
  pub idle : changes l n c ≡ false

-- a call that is taken
pub record Taken (l : Limits) (n : Bank) (c : Call) : Type 0 where
  pub by_none : turned l n c ≡ 0
  pub says : answer l n c ≡ told n c
  pub next : after l n c ≡ changed n c
  pub does : changes l n c ≡ not (asks c)

-- the checks that are yet to be made, where all before them passed
pub record Unchecked (l : Limits) (n : Bank) (c : Call) (xs : List Check) : Type 0 where
  pub number_is : turned l n c ≡ fails xs
  pub place_is : place l n c ≡ fails_at xs

and_false : (b : Bool) → (b && false) ≡ false
and_false true = refl
and_false false = refl

and_true : (b : Bool) → (b && true) ≡ b
and_true true = refl
and_true false = refl

module _ (l : Limits) (n : Bank) (c : Call) where
  pub unchecked : 2 ≤ l.accounts → ReachedUnder l n → Unchecked l n c (room_checks l n c)
  unchecked two r = record { number_is = room_decides.number_is l n c two r; place_is = room_decides.place_is l n c two r }

  pub passing : (x : Check) (xs : List Check) → Unchecked l n c (x ∷ xs) → x.passes ≡ true → Unchecked l n c xs
  passing x xs u e =
      record { number_is = u.number_is ∙ ap (λ (b : Bool). pick b (fails xs) x.number) e; place_is = u.place_is ∙ ap (λ (b : Bool). pick b (fails_at xs) x.place) e }

  pub failing : (x : Check) (xs : List Check) → Unchecked l n c (x ∷ xs) → x.passes ≡ false → 0 < x.number → Turned l n c x.number x.place
  failing x xs u e h =
      let t : turned l n c ≡ x.number = u.number_is ∙ ap (λ (b : Bool). pick b (fails xs) x.number) e in
      let p : place l n c ≡ x.place = u.place_is ∙ ap (λ (b : Bool). pick b (fails_at xs) x.place) e in
      let z : eqb (turned l n c) 0 ≡ false = ne_eqb (turned l n c) 0 (λ q. omega arith) in
      record {
        away = ap (λ (b : Bool). pick b (told n c) (refused (turned l n c) (place l n c))) z ∙ (cc);
        same = ap (λ (b : Bool). pick b (changed n c) n) z;
        idle = ap (λ (b : Bool). not (asks c) && b) z ∙ and_false (not (asks c));
      }

  pub all_passed : Unchecked l n c [] → Taken l n c
  all_passed u =
      let z : eqb (turned l n c) 0 ≡ true = eq-eqb (turned l n c) 0 u.number_is in
      record {
        by_none = u.number_is;
        says = ap (λ (b : Bool). pick b (told n c) (refused (turned l n c) (place l n c))) z;
        next = ap (λ (b : Bool). pick b (changed n c) n) z;
        does = ap (λ (b : Bool). not (asks c) && b) z ∙ and_true (not (asks c));
      }
