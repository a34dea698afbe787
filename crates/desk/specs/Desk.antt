-- What taking a call leaves, and what always holds of a book that calls are taken on. Assumes nothing: these are definitions.
use Rattle.std.specs.Prelude.{◌≡◌, ℕ, suc, Bool, true, false, ◌&&◌, [], Some, None, Ok, Err, Option, Result}
use Rattle.bank.specs.Book.{pick}
use Rattle.bank.specs.Builders.{month_starts}
use Rattle.bank.specs.Calls.{Call, Answer, day_ends, answer}
use Rattle.bank.specs.Count.{changes}
use Rattle.bank.specs.Promise.{asks, plain, allowed}
use Rattle.model.specs.Register.{register_after}
use Rattle.model.specs.First.{not_yet}
use Rattle.model.specs.Whole.{ReachedRegister}
use Rattle.wire.specs.Answered.{answered}
use Rattle.wire.specs.declared.answer.Answer.{Answer as Reply}
use Rattle.ledger.specs.Meaning.{bank, register, limits}
use Rattle.ledger.specs.declared.Ledger.{Ledger}
use Rattle.ledger.specs.declared.opening.Refused.{Refused}
use Rattle.desk.specs.Refusals.{turned_away}
use Rattle.desk.specs.declared.refusal.Refusal.{Refusal}
use Rattle.desk.specs.declared.Outcome.{Outcome}
use Rattle.desk.specs.declared.Outcome.TheVariants.{Changed, Unchanged}

-- a book that calls brought about, under limits that may be given
pub record Kept (g : Ledger) : Type 0 where
  pub allows : allowed (limits g) ≡ true
  pub reached : ∥ ReachedRegister (limits g) (register g) ∥₁

-- a new book: calls can be taken on it, and the calls that brought it about are known
pub record Begun (g : Ledger) : Type 0 where
  pub kept : Kept g
  pub reached : ReachedRegister (limits g) (register g)

-- where a book was opened, it is a new one
abbrev pub OpenedKept : Result Ledger Refused → Type 0
OpenedKept (Ok g) = Begun g
OpenedKept (Err e) = Unit {0}

-- where the calls that brought about the book g are known, so are those that brought about h
abbrev pub Onward : Ledger → Ledger → Type 0
Onward g h = ReachedRegister (limits g) (register g) → ReachedRegister (limits h) (register h)

-- a check hands on a value where its test is passed
abbrev pub HandsOn : Option ℕ → ℕ → Bool → Type 0
HandsOn (Some y) x passes = (y ≡ x) × (passes ≡ true)
HandsOn None x passes = passes ≡ false

-- what is answered: to a call that is taken, and to one that is turned away
abbrev pub reply : Result Reply Refusal → Answer
reply (Ok a) = answered a []
reply (Err x) = turned_away x

-- was a call taken
abbrev pub took : Result Reply Refusal → Bool
took (Ok a) = true
took (Err x) = false

-- call c was taken on the book g, or turned away: h is left, a is answered, and did says whether the book changed
pub record Served (g h : Ledger) (c : Call) (a : Answer) (did : Bool) : Type 0 where
  pub after_is : register h ≡ register_after (limits g) (register g) c
  pub told_is : a ≡ answer (limits g) (bank g) c
  pub did_is : did ≡ changes (limits g) (bank g) c
  pub kept : Kept h
  pub onward : Onward g h
  pub limits_stay : limits h ≡ limits g

-- call c is not there yet: nothing changes, and that is answered
pub record NotYetServed (g h : Ledger) (c : Call) (a : Answer) (did : Bool) : Type 0 where
  pub after_is : register h ≡ register g
  pub told_is : a ≡ not_yet c
  pub did_is : did ≡ false
  pub limits_stay : limits h ≡ limits g

-- the end of a day was taken, or turned away; that of a day on which a month ends is not there yet
pub record DayServed (g h : Ledger) (a : Answer) (did : Bool) : Type 0 where
  pub within : month_starts (suc (bank g).today) ≡ false → Served g h day_ends a did
  pub month : month_starts (suc (bank g).today) ≡ true → NotYetServed g h day_ends a did
  pub kept : Kept h
  pub onward : Onward g h

-- a question was answered, or turned away
pub record Asked (g : Ledger) (c : Call) (a : Answer) : Type 0 where
  pub told_is : a ≡ answer (limits g) (bank g) c
  pub same : register_after (limits g) (register g) c ≡ register g
  pub idle : changes (limits g) (bank g) c ≡ false

-- a question of the first stage was answered, or turned away; any other call is not there yet
pub record AskedFirst (g : Ledger) (c : Call) (a : Answer) : Type 0 where
  pub asked : (plain c && asks c) ≡ true → Asked g c a
  pub other : (plain c && asks c) ≡ false → a ≡ not_yet c

-- what an outcome answers, and whether the book changed
abbrev pub answer_in : Outcome → Reply
answer_in (Changed a) = a
answer_in (Unchanged a) = a

abbrev pub changed_in : Outcome → Bool
changed_in (Changed a) = true
changed_in (Unchanged a) = false

-- an outcome says this
pub record OutcomeOf (o : Outcome) (a : Answer) (did : Bool) : Type 0 where
  pub answer_is : answered (answer_in o) [] ≡ a
  pub changed_is : changed_in o ≡ did

-- a call of the first stage was taken, or turned away; one of a later stage is not there yet and changes nothing
pub record ServedFirst (g h : Ledger) (c : Call) (a : Answer) (did : Bool) : Type 0 where
  pub after_is : register h ≡ pick (plain c) (register_after (limits g) (register g) c) (register g)
  pub told_is : a ≡ pick (plain c) (answer (limits g) (bank g) c) (not_yet c)
  pub did_is : did ≡ (plain c && changes (limits g) (bank g) c)
  pub kept : Kept h
  pub onward : Onward g h
  pub limits_stay : limits h ≡ limits g
