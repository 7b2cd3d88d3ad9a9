-- This project's own: the gate word of a ring, and its four parts.
use Rattle.std.specs.Prelude.{◌≡◌, ℕ, ◌+◌, ◌*◌, ◌/◌, ◌%◌, ◌^◌, ◌<◌, ◌==◌, Bool, true, false}
use Rattle.tap_ring.specs.declared.gate.TheConstants.{CLAIMS_END, EPOCHS_END, RESIZES_END}

-- bits 0 to 39: the claim count
abbrev pub claimed_of : ℕ → ℕ
claimed_of word = word % 2 ^ 40

-- bit 40: whether the gate is shut
abbrev pub is_shut : ℕ → Bool
is_shut word = word / 2 ^ 40 % 2 == 1

-- bits 41 to 56: the epoch
abbrev pub epoch_of : ℕ → ℕ
epoch_of word = word / 2 ^ 41 % 2 ^ 16

-- bits 57 to 63: the number of resizes
abbrev pub resizes_of : ℕ → ℕ
resizes_of word = word / 2 ^ 57

-- a bit as a number
abbrev pub bit : Bool → ℕ
bit true = 1
bit false = 0

-- the word of four parts
abbrev pub gate_word : ℕ → Bool → ℕ → ℕ → ℕ
gate_word claimed shut epoch resizes = claimed + 2 ^ 40 * bit shut + 2 ^ 41 * epoch + 2 ^ 57 * resizes

-- the four parts of a word are what it was made of, as long as each is within its bits
abbrev pub GateLaws : Type 0
GateLaws = (claimed : ℕ) (shut : Bool) (epoch resizes : ℕ)
    → claimed < CLAIMS_END → epoch < EPOCHS_END → resizes < RESIZES_END
    → (let word = gate_word claimed shut epoch resizes in
    (claimed_of word ≡ claimed) × (is_shut word ≡ shut) × (epoch_of word ≡ epoch) × (resizes_of word ≡ resizes))
