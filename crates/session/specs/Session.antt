-- A session as the first stage's program: what it holds in memory is the program's state, and what it still has to do are the program's acts. Assumes nothing: these are definitions.
use Rattle.std.specs.Prelude.{◌≡◌, ℕ, List, [], ◌∷◌, length, take}
use Rattle.device.specs.Device.{write, flush, say}
use Rattle.device.specs.Book.{ran_by}
use Rattle.device.specs.Resident.{Memory}
use Rattle.bank.specs.Book.{Bank}
use Rattle.bank.specs.Calls.{Call, new_bank}
use Rattle.bank.specs.Calls.{Answer as Reply}
use Rattle.bank.specs.Device.{Act}
use Rattle.model.specs.Core.{book}
use Rattle.wire.specs.Answered.{answered, written_answer}
use Rattle.wire.specs.declared.answer.Answer.{Answer as Code}
use Rattle.ledger.specs.Meaning.{bank, limits}
use Rattle.journal.specs.Tail.{tail, Stands}
use Rattle.session.specs.declared.Session.{Session}
use Rattle.session.specs.declared.Stage.{Stage}
use Rattle.session.specs.declared.Stage.TheVariants.{Idle, Writing, Flushing, Saying}
use Rattle.session.specs.declared.Next.{Next}
use Rattle.session.specs.declared.Next.TheVariants.{Write, Flush, Say, Done}

-- the program's state
abbrev pub memory : Session → Memory Call Bank
memory s = record { bank = bank s.book.ledger; count = s.journal.count; tail = tail s.journal }

-- the answer of the last call
abbrev pub answer_of_lem : Session → Reply
answer_of_lem s = answered s.answer []

-- what is left to do, at each stage: a block gets the bytes b, and a is answered
abbrev pub left_of : Stage → List ℕ → Reply → List Act
left_of Idle b a = []
left_of (Writing k) b a = write k b ∷ (flush ∷ (say a ∷ []))
left_of Flushing b a = flush ∷ (say a ∷ [])
left_of Saying b a = say a ∷ []

-- what a session has left to do
abbrev pub left : Session → List Act
left s = left_of s.stage s.journal.block.now (answer_of_lem s)

-- the act that the caller is told to do
abbrev pub told : Next → Session → List Act
told (Write k) s = write k s.journal.block.now ∷ []
told Flush s = flush ∷ []
told (Say n) s = say (answer_of_lem s) ∷ []
told Done s = []

-- nothing is to be done just where nothing is left
abbrev pub Told : Next → List Act → Type 0
Told (Write k) xs = Unit {0}
Told Flush xs = Unit {0}
Told (Say n) xs = Unit {0}
Told Done xs = xs ≡ []

-- what is to be said is what the answer's bytes are
abbrev pub Said : Next → Session → Type 0
Said (Write k) s = Unit {0}
Said Flush s = Unit {0}
Said (Say n) s = n ≡ s.said
Said Done s = Unit {0}

-- the book, the journal and the answer stay
pub record Same (s t : Session) : Type 0 where
  pub book : t.book ≡ s.book
  pub journal : t.journal ≡ s.journal
  pub bytes : t.bytes.now ≡ s.bytes.now
  pub length_is : t.said ≡ s.said
  pub answer : t.answer ≡ s.answer

-- an answer is in the lent bytes, to be said; all else stays
pub record Replied (s t : Session) (a : Code) : Type 0 where
  pub book : t.book ≡ s.book
  pub journal : t.journal ≡ s.journal
  pub stage : t.stage ≡ Saying
  pub answer : t.answer ≡ a
  pub roomy : length t.bytes.now ≡ length s.bytes.now
  pub spoken : take t.said t.bytes.now ≡ written_answer (answered a [])

-- it stands at the end of the journal's calls cs
pub record At (s : Session) (cs : List Call) : Type 0 where
  pub bank_is : bank s.book.ledger ≡ ran_by (book (limits s.book.ledger)) new_bank cs
  pub stands : Stands s.journal cs
