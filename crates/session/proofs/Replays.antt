-- Calls of a journal that are taken again.
use Rattle.std.proofs.Common.{◌≡◌, ℕ, zero, suc, ◌+◌, ◌<◌, ◌≤◌, Bool, true, false, ◌&&◌, List, [], ◌∷◌, ◌++◌, length, get_or, take, drop, sym, refl, ap, ◌∙◌, subst, append_assoc, append-nil, arith, length-append}
use Rattle.std.proofs.lemmas.List.{take_more}
use Rattle.device.specs.Book.{ran_by}
use Rattle.device.specs.Journal.{takes}
use Rattle.device.specs.Rows.{Row, thing_in, rows_at, rows_in}
use Rattle.device.proofs.Keeps.{ran_snoc}
use Rattle.bank.specs.Book.{Bank}
use Rattle.bank.specs.Calls.{Call, day_ends, Limits, after, new_bank}
use Rattle.bank.specs.Calls.{Answer as Told}
use Rattle.bank.specs.Count.{changes}
use Rattle.bank.specs.Promise.{readable, plain}
use Rattle.model.specs.Core.{book}
use Rattle.model.specs.First.{first_call}
use Rattle.model.specs.JournalBlock.{call_row}
use Rattle.ledger.specs.Meaning.{bank, limits}
use Rattle.desk.specs.Desk.{ServedFirst}
use Rattle.journal.specs.Tail.{Stands, Appended}
use Rattle.journal.specs.Recovery.{TakenAfter}
use Rattle.journal.proofs.Rows.{row_in}
use Rattle.session.specs.declared.Session.{Session}
use Rattle.session.specs.Session.{At}
use Rattle.session.specs.Replay.{Grown, row_call}
use Rattle.session.proofs.Steps.{after_bank}

-- one call more
pub grown_one : (s t : Session) (c : Call) (a : Told) → ServedFirst s.book.ledger t.book.ledger c a true → Appended s.journal t.journal c →
    ((b : List Call) → Stands s.journal b → Stands t.journal (b ++ (c ∷ []))) → t.stage ≡ s.stage → Grown s t (c ∷ [])
grown_one s t c a v j n h =
    record {
      limits_stay = v.limits_stay;
      read_stays = j.alike.read;
      blocks_stay = j.alike.blocks;
      count_is = j.count;
      stage_stays = h;
      stands = λ base at.
          record {
            bank_is =
                after_bank s.book.ledger t.book.ledger c a v ∙ ap (λ (b : Bank). after (limits s.book.ledger) b c) at.bank_is ∙ sym (ran_snoc (book (limits s.book.ledger)) new_bank base c)
                ∙ ap (λ (l : Limits). ran_by (book l) new_bank (base ++ (c ∷ []))) (sym v.limits_stay);
            stands = n base at.stands;
          };
      onward = v.onward;
    }

-- none, and some after others
pub grown_none : (s : Session) → Grown s s []
grown_none s =
    record {
      limits_stay = refl;
      read_stays = refl;
      blocks_stay = refl;
      count_is = omega arith;
      stage_stays = refl;
      stands = λ base at. subst (At s) (sym (append-nil base)) at;
      onward = λ r. r;
    }

pub grown_then : (s t u : Session) (cs ds : List Call) → Grown s t cs → Grown t u ds → Grown s u (cs ++ ds)
grown_then s t u cs ds g h =
    record {
      limits_stay = h.limits_stay ∙ g.limits_stay;
      read_stays = h.read_stays ∙ g.read_stays;
      blocks_stay = h.blocks_stay ∙ g.blocks_stay;
      count_is = let p = g.count_is in let q = h.count_is in let n = length-append cs ds in omega arith;
      stage_stays = h.stage_stays ∙ g.stage_stays;
      stands = λ base at. subst (At u) (append_assoc base cs ds) (h.stands (base ++ cs) (g.stands base at));
      onward = λ r. h.onward (g.onward r);
    }

-- rows of a block
rows_front : {X : Type 0} (r : Row X) (i n : ℕ) (bs : List ℕ) → i ≤ n → take i (rows_at r n bs) ≡ rows_at r i bs
unfolding rows_at
rows_front r zero n bs h = refl
rows_front r (suc i) zero bs h = absurd (omega arith)
rows_front r (suc i) (suc n) bs h = ap (λ xs. thing_in r bs ∷ xs) (rows_front r i n (drop r.size bs) (omega arith))

rows_many : {X : Type 0} (r : Row X) (n : ℕ) (bs : List ℕ) → length (rows_at r n bs) ≡ n
unfolding rows_at
rows_many r zero bs = refl
rows_many r (suc n) bs = ap suc (rows_many r n (drop r.size bs))

pub rows_length : (n : ℕ) (bs : List ℕ) → length (rows_in call_row 32 n bs) ≡ n
unfolding rows_in
rows_length n bs = rows_many call_row n (drop 32 bs)

pub rows_next : (bs : List ℕ) (i : ℕ) → i < 24 → rows_in call_row 32 (i + 1) bs ≡ rows_in call_row 32 i bs ++ (row_call bs i ∷ [])
unfolding rows_in
rows_next bs i h =
    let xs : List Call = rows_at call_row 24 (drop 32 bs) in
    let n : i < length xs = omega (arith, rows_many call_row 24 (drop 32 bs)) in
    sym (rows_front call_row (i + 1) 24 (drop 32 bs) (omega arith)) ∙ take_more xs i day_ends n ∙ ap (λ ys. ys ++ (row_call bs i ∷ [])) (rows_front call_row i 24 (drop 32 bs) (omega arith))

-- one more row of a block
pub grown_row : (s t u : Session) (bs : List ℕ) (i : ℕ) → i < 24 → Grown s t (rows_in call_row 32 i bs) → Grown t u (row_call bs i ∷ []) → Grown s u (rows_in call_row 32 (i + 1) bs)
grown_row s t u bs i h g k = subst (Grown s u) (sym (rows_next bs i h)) (grown_then s t u (rows_in call_row 32 i bs) (row_call bs i ∷ []) g k)

-- each of some calls is taken after those before it
taken_at : (l : Limits) (s cs : List Call) (i : ℕ) (d : Call) → i < length cs → TakenAfter l s cs → takes (book l) first_call (changes l) (s ++ take i cs) (get_or cs i d) ≡ true
unfolding TakenAfter
taken_at l s [] i d h t = absurd (omega arith)
taken_at l s (c ∷ cs) zero d h t = subst (λ (x : List Call). takes (book l) first_call (changes l) x c ≡ true) (sym (append-nil s)) t.0
taken_at l s (c ∷ cs) (suc i) d h t =
    subst (λ (x : List Call). takes (book l) first_call (changes l) x (get_or cs i d) ≡ true) (append_assoc s (c ∷ []) (take i cs)) (taken_at l (s ++ (c ∷ [])) cs i d (omega arith) t.1)

plain_of : (r p q : Bool) → ((r && p) && q) ≡ true → (p && q) ≡ true
plain_of true p q h = h
plain_of false p q h = absurd (let z : ◌≡◌ {A = ℕ} 0 1 = cc in omega arith)

-- so a row is taken again
pub row_taken : (s t : Session) (bs : List ℕ) (i n : ℕ) (base : List Call) → i < n → n ≤ 24 → Grown s t (rows_in call_row 32 i bs) → At s base → TakenAfter (limits s.book.ledger) base (rows_in call_row 32 n bs) →
    (plain (row_call bs i) && changes (limits t.book.ledger) (bank t.book.ledger) (row_call bs i)) ≡ true
unfolding takes rows_in
row_taken s t bs i n base h m g at k =
    let l : Limits = limits s.book.ledger in
    let c : Call = row_call bs i in
    let b : bank t.book.ledger ≡ ran_by (book l) new_bank (base ++ rows_in call_row 32 i bs) =
    (g.stands base at).bank_is ∙ ap (λ (x : Limits). ran_by (book x) new_bank (base ++ rows_in call_row 32 i bs)) g.limits_stay in
    let xs : List Call = rows_at call_row n (drop 32 bs) in
    let q : takes (book l) first_call (changes l) (base ++ take i xs) (get_or xs i day_ends) ≡ true = taken_at l base xs i day_ends (omega (arith, rows_many call_row n (drop 32 bs))) k in
    let e : get_or xs i day_ends ≡ c = row_in call_row n i (drop 32 bs) day_ends h ∙ sym (row_in call_row 24 i (drop 32 bs) day_ends (omega arith)) in
    let f : take i xs ≡ rows_in call_row 32 i bs = rows_front call_row i n (drop 32 bs) (omega arith) in
    let z : (first_call c && changes l (ran_by (book l) new_bank (base ++ rows_in call_row 32 i bs)) c) ≡ true =
    subst (λ (y : List Call). (first_call c && changes l (ran_by (book l) new_bank (base ++ y)) c) ≡ true) f
    (subst (λ (y : Call). (first_call y && changes l (ran_by (book l) new_bank (base ++ take i xs)) y) ≡ true) e q) in
    ap (λ (x : Limits). plain c && changes x (bank t.book.ledger) c) g.limits_stay ∙ ap (λ (x : Bank). plain c && changes l x c) b ∙ plain_of (readable c) (plain c) _ z
