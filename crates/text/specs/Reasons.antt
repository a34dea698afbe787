-- Why a call is turned away, by the number of the refusal. Assumes nothing: these are definitions.
use Rattle.std.specs.Prelude.{ℕ, List, [], ◌∷◌, codes}

-- no number of a refusal
abbrev pub unknown : List ℕ
unknown = codes "not known"

-- the words of each number, from 0
abbrev pub reasons : List (List ℕ)
reasons =
    unknown
    ∷ codes "the call cannot be read"
    ∷ codes "an amount of 0, or an amount, a limit or a rate that is too large"
    ∷ codes "the memory, the device or the limits do not fit"
    ∷ codes "there is no such account"
    ∷ codes "from an account to itself"
    ∷ codes "the value day is after today, or more than 60 days before it"
    ∷ codes "not enough on the account"
    ∷ codes "there is no such booking, it is interest, or it was taken back"
    ∷ codes "known only on a day after today"
    ∷ codes "the book has no room for it"
    ∷ []
