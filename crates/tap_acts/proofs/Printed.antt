-- The lines that acts print, and the step of a replay that one of them is.
use Rattle.std.proofs.Common.{◌≡◌, ℕ, List, [], ◌∷◌, map, Option, Some, None, Bool, true, false, refl, sym, ap, ◌∙◌, inl, inr}
use Rattle.std.specs.Prelude.{◌==◌, if◌then◌else◌, option_and_then}
use Rattle.std.specs.List.{cons_option, list_any}
use Rattle.std.specs.Option.{option_map_or, option_or}
use Rattle.std.proofs.lemmas.Bool.{eq-eqb, ne_eqb}
use Rattle.std.proofs.lemmas.Slice.Eq.{bytes_eq-Decides}
use Rattle.scen_words.specs.declared.command.Command.{Command}
use Rattle.tap_trace.specs.declared.kind.Kind.{Kind}
use Rattle.tap_trace.specs.declared.trace.StepLine.{StepLine}
use Rattle.tap_ground.specs.Options.{◌>>=◌}
use Rattle.tap_legal.specs.Numbered.{Asked, StepAt}
use Rattle.tap_legal.specs.Case.{Case}
use Rattle.tap_legal.specs.Codes.{kind_code, same_kind}
use Rattle.tap_legal.specs.Lookups.{asked_at}
use Rattle.tap_legal.specs.Replay.{Replay, broken_at, if_step, replay_back, replay_bytes, replay_call}
use Rattle.tap_legal.specs.ReplayTurns.{replay, replay_as, replay_step, replay_turn}
use Rattle.tap_sights.specs.Acts.{Act, Done}
use Rattle.tap_sights.specs.GuestFacts.{printed, step_line}
use Rattle.tap_sights.specs.Sight.{In}
use Rattle.tap_sights.proofs.Kit.{none_any}

-- ---- lines

abbrev pub lines : List StepAt → List StepLine
lines ss = map (λ (x : StepAt). x.at) ss

abbrev line_or_none : Act → Option Kind → Option StepLine
line_or_none a o = option_map_or (λ k. Some (step_line a k)) o None

-- the next line is that of an act which prints
pub record NextLine (d : Act × Done) (k : Kind) (rest : List (Act × Done)) (ss : List StepAt) : Type 0 where
  pub s : StepAt
  pub behind : List StepAt
  pub are : ss ≡ s ∷ behind
  pub is : s.at ≡ step_line d.0 k
  pub more : printed rest ≡ lines behind

split_lines : (x : StepLine) (xs : List StepLine) (ss : List StepAt) → x ∷ xs ≡ lines ss
    → (s : StepAt) × (behind : List StepAt) × (ss ≡ s ∷ behind) × (s.at ≡ x) × (xs ≡ lines behind)
split_lines x xs [] e = absurd (cc (e))
split_lines x xs (s ∷ ss) e = (s, ss, refl, cc (e), cc (e))

pub next_line : (d : Act × Done) (k : Kind) (rest : List (Act × Done)) (ss : List StepAt) → d.1.step ≡ Some k
    → printed (d ∷ rest) ≡ lines ss → NextLine d k rest ss
next_line d k rest ss e h =
    let r = split_lines (step_line d.0 k) (printed rest) ss
    (sym (ap (λ (o : Option Kind). cons_option (line_or_none d.0 o) (printed rest)) e) ∙ h) in
    record { s = r.0; behind = r.1; are = r.2; is = r.3; more = r.4 }

pub no_line : (d : Act × Done) (rest : List (Act × Done)) (ss : List StepAt) → d.1.step ≡ None
    → printed (d ∷ rest) ≡ lines ss → printed rest ≡ lines ss
no_line d rest ss e h = sym (ap (λ (o : Option Kind). cons_option (line_or_none d.0 o) (printed rest)) e) ∙ h

-- ---- one step of a replay

pub same_kind_as : (k l : Kind) → k ≡ l → same_kind k l ≡ true
same_kind_as k l e = (bytes_eq-Decides (kind_code k) (kind_code l)).1 (ap kind_code e)

pub if_step_is : (s : StepAt) (wanted : Option Kind) (old new : Replay) (k : Kind) → wanted ≡ Some k → s.at.kind ≡ k
    → if_step s wanted old new ≡ new
if_step_is s wanted old new k e h =
    ap (λ (o : Option Kind). if option_map_or (same_kind s.at.kind) o false then new else broken_at s.line old) e
    ∙ ap (λ (b : Bool). if b then new else broken_at s.line old) (same_kind_as s.at.kind k h)

pub step_is : (c : Case) (s : StepAt) (ss : List StepAt) (r new : Replay) (x : Asked) → asked_at c s.at.command ≡ Some x
    → x.told.actor ≡ s.at.actor → replay_as c s ss x.command r ≡ Some new → replay_step c s ss r ≡ new
step_is c s ss r new x e actor h =
    ap (λ (o : Option Asked). option_map_or (λ (y : Replay). y)
    (option_and_then (λ (a : Asked). if a.told.actor == s.at.actor then replay_as c s ss a.command r else None) o)
    (broken_at s.line r)) e
    ∙ ap (λ (b : Bool). option_map_or (λ (y : Replay). y) (if b then replay_as c s ss x.command r else None) (broken_at s.line r))
    (eq-eqb x.told.actor s.at.actor actor)
    ∙ ap (λ (o : Option Replay). option_map_or (λ (y : Replay). y) o (broken_at s.line r)) h

pub replays_on : (c : Case) (s : StepAt) (ss : List StepAt) (r : Replay) → r.broken ≡ false
    → replay c (s ∷ ss) r ≡ replay c ss (replay_step c s ss r)
replays_on c s ss r e = ap (λ (b : Bool). replay c ss (if b then r else replay_step c s ss r)) e

pub none_has : (n : ℕ) (ns : List ℕ) → (In n ns → ⊥) → list_any (λ m. m == n) ns ≡ false
none_has n ns h = none_any (λ m. m == n) ns (λ m i. ne_eqb m n (λ same. h (subst_in m same i)))
  where
    subst_in : (m : ℕ) → m ≡ n → In m ns → In n ns
    subst_in m e i = in_same ns m e i
      where
        in_same : (ms : List ℕ) (m : ℕ) → m ≡ n → In m ms → In n ms
        in_same [] m e i = i
        in_same (k ∷ ks) m e (inl is) = inl (is ∙ e)
        in_same (k ∷ ks) m e (inr i) = inr (in_same ks m e i)

-- which of the four ways a step goes, where its command isn't done
module _ (c : Case) (s : StepAt) (ss : List StepAt) (k : Command) (r new : Replay) (undone : list_any (λ m. m == s.at.command) r.finished ≡ false) where
  abbrev ways : Bool → Option Replay → Option Replay → Option Replay → Option Replay → Option Replay
  ways b turn back call other = if b then None else option_or turn (option_or back (option_or call other))

  pub as_turn : replay_turn c s ss k r ≡ Some new → replay_as c s ss k r ≡ Some new
  as_turn e =
      ap (λ b. ways b (replay_turn c s ss k r) (replay_back c s k r) (replay_call c s k r) (replay_bytes c s k r)) undone
      ∙ ap (λ o. ways false o (replay_back c s k r) (replay_call c s k r) (replay_bytes c s k r)) e

  pub as_back : replay_turn c s ss k r ≡ None → replay_back c s k r ≡ Some new → replay_as c s ss k r ≡ Some new
  as_back t e =
      ap (λ b. ways b (replay_turn c s ss k r) (replay_back c s k r) (replay_call c s k r) (replay_bytes c s k r)) undone
      ∙ ap (λ o. ways false o (replay_back c s k r) (replay_call c s k r) (replay_bytes c s k r)) t
      ∙ ap (λ o. ways false None o (replay_call c s k r) (replay_bytes c s k r)) e

  pub as_call : replay_turn c s ss k r ≡ None → replay_back c s k r ≡ None → replay_call c s k r ≡ Some new
      → replay_as c s ss k r ≡ Some new
  as_call t b e =
      ap (λ b. ways b (replay_turn c s ss k r) (replay_back c s k r) (replay_call c s k r) (replay_bytes c s k r)) undone
      ∙ ap (λ o. ways false o (replay_back c s k r) (replay_call c s k r) (replay_bytes c s k r)) t
      ∙ ap (λ o. ways false None o (replay_call c s k r) (replay_bytes c s k r)) b
      ∙ ap (λ o. ways false None None o (replay_bytes c s k r)) e

  pub as_bytes : replay_turn c s ss k r ≡ None → replay_back c s k r ≡ None → replay_call c s k r ≡ None
      → replay_bytes c s k r ≡ Some new → replay_as c s ss k r ≡ Some new
  as_bytes t b n e =
      ap (λ b. ways b (replay_turn c s ss k r) (replay_back c s k r) (replay_call c s k r) (replay_bytes c s k r)) undone
      ∙ ap (λ o. ways false o (replay_back c s k r) (replay_call c s k r) (replay_bytes c s k r)) t
      ∙ ap (λ o. ways false None o (replay_call c s k r) (replay_bytes c s k r)) b
      ∙ ap (λ o. ways false None None o (replay_bytes c s k r)) n
      ∙ e

pub none_then : {A B : Type 0} (o : Option A) (g : A → Option B) → o ≡ None → (o >>= g) ≡ None
none_then None g e = refl
none_then (Some x) g e = absurd (cc (e))
