-- The lines of a scenario that isn't refused.
use Rattle.std.proofs.Common.{◌≡◌, ℕ, suc, Bool, List, [], ◌∷◌, Option, Some, None, Result, Ok, Err, refl, subst}
use Rattle.scen_words.specs.declared.fault.Why.{Why}
use Rattle.scen_words.specs.declared.sentence.Sentence.{Sentence}
use Rattle.scen_words.specs.Laws.{FitSentence, SentencesFit}
use Rattle.scen_words.specs.Sentences.{sentence_of}
use Rattle.scen_text.specs.declared.fault.ScenFault.{ScenFault}
use Rattle.scen_text.specs.Before.{before}
use Rattle.tap_ground.specs.Lists.{is_nil}
use Rattle.tap_ground.specs.Results.{◌>>=◌}
use Rattle.scen_text.specs.Refusals.{at_line, cause, said_from, unless}

abbrev Says : Type 0
Says = Result Sentence Why

-- ---- a history without refusals

pub record Took (version : ℕ) (s : Sentence) (e : List Sentence) : Type 0 where
  pub fits : FitSentence version s
  pub last : Bool
  pub fine : cause (before e) last s ≡ None

abbrev pub Accepted : ℕ → List Sentence → Type 0
Accepted version [] = Unit {0}
Accepted version (s ∷ e) = Took version s e × Accepted version e

abbrev Histories : Type 0
Histories = Result (List Sentence) ScenFault

unless_ok : (s : Sentence) (o : Option Why) (n : ℕ) (k : Sentence → Histories) (e : List Sentence) → (at_line n (unless s o) >>= k) ≡ Ok e → (o ≡ None) × (k s ≡ Ok e)
unless_ok s None n k e h = (refl, h)
unless_ok s (Some w) n k e h = absurd cc

step_ok : (r : Says) (e : List Sentence) (last : Bool) (n : ℕ) (k : Sentence → Histories) (after : List Sentence) → (at_line n (r >>= λ s. unless s (cause (before e) last s)) >>= k) ≡ Ok after
    → (s : Sentence) × (r ≡ Ok s) × (cause (before e) last s ≡ None) × (k s ≡ Ok after)
step_ok (Ok s) e last n k after h = let u = unless_ok s (cause (before e) last s) n k after h in (s, refl, u.0, u.1)
step_ok (Err w) e last n k after h = absurd cc

pub said_accepted : SentencesFit → (version : ℕ) (e : List Sentence) (n : ℕ) (lines : List (List ℕ)) (after : List Sentence) → Accepted version e → said_from version e n lines ≡ Ok after
    → Accepted version after
unfolding said_from
said_accepted law version e n [] after ok h = let same : e ≡ after = cc in subst (Accepted version) same ok
said_accepted law version e n (line ∷ lines) after ok h =
    let t = step_ok (sentence_of version line) e (is_nil lines) n (λ s. said_from version (s ∷ e) (suc n) lines) after h in
    said_accepted law version (t.0 ∷ e) (suc n) lines after (record { fits = law version line t.0 t.1; last = is_nil lines; fine = t.2 }, ok) t.3
