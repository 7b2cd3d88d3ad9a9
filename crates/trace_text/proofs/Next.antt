-- Two lines that can stand behind the same lines, and are the same bytes up to their LFs, say the same.
use Rattle.std.proofs.Common.{◌≡◌, ℕ, Bool, true, not, ◌&&◌, ◌==◌, List, [], ◌∷◌, ◌++◌, length, Some, codes, refl, sym, ◌∙◌, ap, append_assoc, ◌⊎◌, inl, inr, arith, lit<}
use Rattle.std.specs.List.{list_all}
use Rattle.std.specs.Fmt.{decimal}
use Rattle.std.proofs.lemmas.Bool.{and_parts, eqb-true}
use Rattle.std.proofs.lemmas.List.{append_cancel_left}
use Rattle.tap_trace.specs.declared.trace.PhasePart.{PhasePart}
use Rattle.tap_trace.specs.declared.trace.Trace.{Trace}
use Rattle.tap_trace.specs.declared.turn.ChainText.TheVariants.{Got, Refused}
use Rattle.text_fields.specs.Lines.{line_of}
use Rattle.trace_causes.specs.Fits.{Is16}
use Rattle.trace_words.specs.Laws.{LinesHaveNoEnd, LinesSayOneThing}
use Rattle.trace_words.specs.Said.{FitSaid, said_fields}
use Rattle.trace_words.specs.declared.said.Said.{Said}
use Rattle.trace_words.specs.declared.said.Said.TheVariants as said
use Rattle.trace_text.specs.Building.{and_item, behind_stage, is_at_phases, stage_after, step, with_phase}
use Rattle.trace_text.specs.declared.builder.Builder.{Builder}
use Rattle.trace_text.specs.declared.builder.Stage.{Stage}
use Rattle.trace_text.specs.declared.builder.Stage.TheVariants.{Start, Inside, Ended}
use Rattle.trace_text.proofs.Fitting.{FitBut}
use Rattle.trace_text.proofs.Heard.{inside}
use Rattle.trace_text.proofs.Lists.{item_by, made_by}

-- ---- bytes

abbrev pub is_inner : ℕ → Bool
is_inner b = not (b == 10)

-- two lines with their LFs, and what follows
pub same_cut : (p q x y : List ℕ) → list_all is_inner p ≡ true → list_all is_inner q ≡ true → p ++ 10 ∷ x ≡ q ++ 10 ∷ y → (p ≡ q) × (x ≡ y)
same_cut [] [] x y hp hq e = (refl, cc)
same_cut [] (b ∷ q) x y hp hq e =
    let ten : 10 ≡ b = cc in
    let inner : is_inner b ≡ true = (and_parts (is_inner b) (list_all is_inner q) hq).0 in
    let none : is_inner 10 ≡ true = ap is_inner ten ∙ inner in absurd cc
same_cut (a ∷ p) [] x y hp hq e =
    let ten : a ≡ 10 = cc in
    let inner : is_inner a ≡ true = (and_parts (is_inner a) (list_all is_inner p) hp).0 in
    let none : is_inner 10 ≡ true = sym (ap is_inner ten) ∙ inner in absurd cc
same_cut (a ∷ p) (b ∷ q) x y hp hq e =
    let first : a ≡ b = cc in
    let tails : p ++ 10 ∷ x ≡ q ++ 10 ∷ y = cc in
    let rest = same_cut p q x y (and_parts (is_inner a) (list_all is_inner p) hp).1 (and_parts (is_inner b) (list_all is_inner q) hq).1 tails in
    let same : p ≡ q = rest.0 in
    (cc, rest.1)

first_byte : List ℕ → ℕ
first_byte [] = 0
first_byte (b ∷ bs) = b

-- ---- a phase, or a line that fits and doesn't begin with a `p`

abbrev pub said_line : Said → List ℕ
said_line s = line_of (said_fields s)

IsPhase : Said → Type 0
IsPhase s = (number : ℕ) × (actors : ℕ) × (s ≡ said.Phase number actors) × Is16 actors

NoPhase : Said → Type 0
NoPhase s = FitSaid s × ((x : List ℕ) → first_byte (said_line s ++ x) ≡ 112 → ⊥)

phase_or : (s : Said) → FitBut s → IsPhase s ⊎ NoPhase s
unfolding IsPhase NoPhase first_byte
phase_or (said.Phase number actors) fit = inl (number, actors, refl, fit)
phase_or said.Begins fit = inr (fit, λ x e. omega arith)
phase_or (said.Op o) fit = inr (fit, λ x e. omega arith)
phase_or (said.Answer a) fit = inr (fit, λ x e. omega arith)
phase_or (said.Resize claimed freed cut) fit = inr (fit, λ x e. omega arith)
phase_or (said.Chain (Got name len fnv)) fit = inr (fit, λ x e. omega arith)
phase_or (said.Chain (Refused position bad)) fit = inr (fit, λ x e. omega arith)
phase_or (said.File file claimed freed) fit = inr (fit, λ x e. omega arith)
phase_or (said.Place l) fit = inr (fit, λ x e. omega arith)
phase_or (said.Guest guest) fit = inr (fit, λ x e. omega arith)
phase_or (said.Step s) fit = inr (fit, λ x e. omega arith)
phase_or (said.Ring vhost ring) fit = inr (fit, λ x e. omega arith)
phase_or (said.Base base) fit = inr (fit, λ x e. omega arith)
phase_or (said.Used position head len) fit = inr (fit, λ x e. omega arith)
phase_or said.End fit = inr (fit, λ x e. omega arith)

-- a phase that can stand has the next number
phase_in : (stage : Stage) (t : Trace) (number actors : ℕ) (c : Builder) → behind_stage (stage_after stage (said.Phase number actors)) (with_phase number actors t) ≡ Some c → number ≡ length t.phases
phase_in Start t number actors c e = absurd cc
phase_in Ended t number actors c e = absurd cc
phase_in Inside t number actors c e =
    let p : PhasePart = record { actors = actors; ops = []; answers = [] } in
    let test : Bool = is_at_phases t && number == length t.phases in
    let P : Builder → Type 0 = λ d. number ≡ length t.phases in
    let Q : Trace → Type 0 = λ d. number ≡ length t.phases in
    let R : List PhasePart → Type 0 = λ d. number ≡ length t.phases in
    made_by inside (with_phase number actors t) c P e
    (λ u made. made_by (λ phases. record t { phases = phases }) (and_item test t.phases p) u Q made
    (λ phases is. item_by test t.phases p phases R is (λ held. eqb-true number (length t.phases) (and_parts (is_at_phases t) (number == length t.phases) held).1)))

pub phase_number : (b : Builder) (number actors : ℕ) (c : Builder) → step b (said.Phase number actors) ≡ Some c → number ≡ length b.trace.phases
phase_number b number actors c e = phase_in b.stage b.trace number actors c e

-- ---- the two lines

module _ (one : LinesSayOneThing) (no_end : LinesHaveNoEnd) where
  same_fit : (u v : Said) (x y : List ℕ) → FitSaid u → FitSaid v → said_line u ++ 10 ∷ x ≡ said_line v ++ 10 ∷ y → (u ≡ v) × (x ≡ y)
  same_fit u v x y fit_u fit_v e =
      let cut = same_cut (said_line u) (said_line v) x y (no_end (said_line u) u (fit_u, refl)) (no_end (said_line v) v (fit_v, refl)) e in
      (one (said_line v) u v (fit_u, sym cut.0) (fit_v, refl), cut.1)

  actors_of : Said → ℕ
  actors_of (said.Phase number actors) = actors
  actors_of s = 0

  -- two phases of one number
  same_phase : (n a b : ℕ) (x y : List ℕ) → Is16 a → Is16 b → said_line (said.Phase n a) ++ 10 ∷ x ≡ said_line (said.Phase n b) ++ 10 ∷ y → (a ≡ b) × (x ≡ y)
  unfolding actors_of
  same_phase n a b x y is_a is_b e =
      let front : List ℕ = codes "phase" ++ 32 ∷ decimal n ++ 32 ∷ [] in
      let tails : decimal a ++ 10 ∷ x ≡ decimal b ++ 10 ∷ y =
      append_cancel_left front (decimal a ++ 10 ∷ x) (decimal b ++ 10 ∷ y) (regroup n a x ∙ e ∙ sym (regroup n b y)) in
      let zero = same_fit (said.Phase 0 a) (said.Phase 0 b) x y (lit< tt, is_a) (lit< tt, is_b)
      (sym (regroup 0 a x) ∙ ap (λ t. (codes "phase" ++ 32 ∷ decimal 0 ++ 32 ∷ []) ++ t) tails ∙ regroup 0 b y) in
      (ap actors_of zero.0, zero.1)
    where
      regroup : (m k : ℕ) (z : List ℕ) → (codes "phase" ++ 32 ∷ decimal m ++ 32 ∷ []) ++ (decimal k ++ 10 ∷ z) ≡ said_line (said.Phase m k) ++ 10 ∷ z
      regroup m k z =
          ap (λ t. 112 ∷ 104 ∷ 97 ∷ 115 ∷ 101 ∷ 32 ∷ t) (append_assoc (decimal m) (32 ∷ []) (decimal k ++ 10 ∷ z) ∙ sym (append_assoc (decimal m) (32 ∷ decimal k) (10 ∷ z)))

  pub next_same : (b : Builder) (u v : Said) (c d : Builder) (x y : List ℕ) → FitBut u → FitBut v → step b u ≡ Some c → step b v ≡ Some d
      → said_line u ++ 10 ∷ x ≡ said_line v ++ 10 ∷ y → (u ≡ v) × (x ≡ y)
  unfolding IsPhase NoPhase first_byte
  next_same b u v c d x y fit_u fit_v step_u step_v e = by (phase_or u fit_u) (phase_or v fit_v)
    where
      by : IsPhase u ⊎ NoPhase u → IsPhase v ⊎ NoPhase v → (u ≡ v) × (x ≡ y)
      by (inl p) (inl q) =
          let S : Said → Builder → Type 0 = λ s f. step b s ≡ Some f in
          let n_is : p.0 ≡ length b.trace.phases = phase_number b p.0 p.1 c (sym (ap (step b) p.2) ∙ step_u) in
          let m_is : q.0 ≡ length b.trace.phases = phase_number b q.0 q.1 d (sym (ap (step b) q.2) ∙ step_v) in
          let same : p.0 ≡ q.0 = n_is ∙ sym m_is in
          let v_is : v ≡ said.Phase p.0 q.1 = q.2 ∙ ap (λ n. said.Phase n q.1) (sym same) in
          let r = same_phase p.0 p.1 q.1 x y p.3 q.3 (sym (ap (λ s. said_line s ++ 10 ∷ x) p.2) ∙ e ∙ ap (λ s. said_line s ++ 10 ∷ y) v_is) in
          (p.2 ∙ ap (λ a. said.Phase p.0 a) r.0 ∙ sym v_is, r.1)
      by (inl p) (inr q) = absurd (q.1 (10 ∷ y) (ap first_byte (sym e ∙ ap (λ s. said_line s ++ 10 ∷ x) p.2)))
      by (inr p) (inl q) = absurd (p.1 (10 ∷ x) (ap first_byte (e ∙ ap (λ s. said_line s ++ 10 ∷ y) q.2)))
      by (inr p) (inr q) = same_fit u v x y p.0 q.0 e
