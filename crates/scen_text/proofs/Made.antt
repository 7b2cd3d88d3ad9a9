-- The phases of an accepted history, line by line from its commands.
use Rattle.std.proofs.Common.{◌≡◌, ◌⊎◌, inl, inr, ℕ, zero, suc, ◌<◌, ◌≤◌, Bool, true, false, cond, ltb, List, [], ◌∷◌, ◌++◌, length, get_or, Option, Some, None, refl, sym, ap, subst, ◌∙◌, append_assoc, arith}
use Rattle.std.specs.Option.{IfSome}
use Rattle.std.specs.Str.{bytes_eq}
use Rattle.std.proofs.lemmas.Bool.{lt-ltb}
use Rattle.std.proofs.lemmas.List.{append-nil}
use Rattle.std.proofs.lemmas.Slice.Eq.{bytes_eq-Decides}
use Rattle.std.proofs.Math.Seq.{get_or-append_seam}
use Rattle.text_fields.specs.declared.value.Value.{Value}
use Rattle.scen_text.specs.declared.scenario.Line.{Line}
use Rattle.scen_text.specs.declared.scenario.Phase.{Phase}
use Rattle.scen_words.specs.declared.sentence.Sentence.{Sentence}
use Rattle.scen_words.specs.declared.sentence.Sentence.TheVariants.{Orders}
use Rattle.scen_words.specs.declared.word.CommandWord.{CommandWord}
use Rattle.scen_text.specs.Before.{at_last, has_name, line_after, number_among, phase_of, with_line, with_name}
use Rattle.scen_words.specs.Commands.{name_of}
use Rattle.scen_text.proofs.Flat.{Ordered}

-- ---- names stay where they are

abbrev pub Grows : List (List ℕ) → List (List ℕ) → Type 0
Grows ns ms = (more : List (List ℕ)) × (ms ≡ ns ++ more)

pub grows_trans : (a b c : List (List ℕ)) → Grows a b → Grows b c → Grows a c
grows_trans a b c p q = (p.0 ++ q.0, q.1 ∙ ap (λ (x : List (List ℕ)). x ++ q.0) p.1 ∙ append_assoc a p.0 q.0)

grown : (ns : List (List ℕ)) (name : List ℕ) (has : Bool) → Grows ns (cond has ns (ns ++ name ∷ []))
grown ns name true = ([], sym (append-nil ns))
grown ns name false = (name ∷ [], refl)

pub with_grows : (ns : List (List ℕ)) (o : Option (List ℕ)) → Grows ns (with_name ns o)
unfolding with_name
with_grows ns None = ([], sym (append-nil ns))
with_grows ns (Some name) = grown ns name (has_name ns name)

front_same : (ns more : List (List ℕ)) (i : ℕ) → i < length ns → get_or (ns ++ more) i [] ≡ get_or ns i []
front_same [] more i lt = absurd (omega arith)
front_same (n ∷ ns) more zero lt = refl
front_same (n ∷ ns) more (suc i) lt = front_same ns more i (omega arith)

below_itself : (n : ℕ) → ltb n n ≡ false
below_itself n = grind arith

abbrev Found : ℕ → List ℕ → List (List ℕ) → Type 0
Found i name ns = ((i < length ns) × (get_or ns i [] ≡ name)) ⊎ (i ≡ length ns)

by_first : (b : Bool) (n name : List ℕ) (ns : List (List ℕ)) (i : ℕ) → bytes_eq n name ≡ b → Found i name ns → Found (cond b 0 (suc i)) name (n ∷ ns)
by_first true n name ns i e h = inl (omega arith, (bytes_eq-Decides n name).0 e)
by_first false n name ns i e (inl h) = let lt = h.0 in inl (omega arith, h.1)
by_first false n name ns i e (inr h) = inr (ap suc h)

found : (name : List ℕ) (ns : List (List ℕ)) → Found (number_among ns name) name ns
unfolding number_among
found name [] = inr refl
found name (n ∷ ns) = by_first (bytes_eq n name) n name ns (number_among ns name) refl (found name ns)

found_at : (ns final : List (List ℕ)) (name : List ℕ) (i : ℕ) → Found i name ns → Grows (cond (ltb i (length ns)) ns (ns ++ name ∷ [])) final → name_of final i ≡ name
found_at ns final name i (inl h) grows =
    let whole : final ≡ ns ++ grows.0 = grows.1 ∙ ap (λ (b : Bool). cond b ns (ns ++ name ∷ []) ++ grows.0) (lt-ltb i (length ns) h.0) in
    ap (λ (x : List (List ℕ)). get_or x i []) whole ∙ front_same ns grows.0 i h.0 ∙ h.1
found_at ns final name i (inr h) grows =
    let past : ltb i (length ns) ≡ false = ap (λ (k : ℕ). ltb k (length ns)) h ∙ below_itself (length ns) in
    let whole : final ≡ ns ++ name ∷ grows.0 = grows.1 ∙ ap (λ (b : Bool). cond b ns (ns ++ name ∷ []) ++ grows.0) past ∙ append_assoc ns (name ∷ []) grows.0 in
    ap (λ (x : List (List ℕ)). get_or x i []) whole ∙ ap (λ (k : ℕ). get_or (ns ++ name ∷ grows.0) k []) h ∙ get_or-append_seam ns name grows.0 []

name_found : (ns final : List (List ℕ)) (name : List ℕ) → Grows (with_name ns (Some name)) final → name_of final (number_among ns name) ≡ name
unfolding with_name
name_found ns final name grows = found_at ns final name (number_among ns name) (found name ns) grows

pub named_at : (ns final : List (List ℕ)) (o : Option (List ℕ)) → Grows (with_name ns o) final → IfSome o (λ name. name_of final (number_among ns name) ≡ name)
named_at ns final None grows = tt
named_at ns final (Some name) grows = name_found ns final name grows

-- ---- lines and phases, each made from the commands before it

pub record MadeLine (f : List Sentence) (actors : ℕ) (l : Line) (w : CommandWord) (v : List Value) : Type 0 where
  pub is : l ≡ line_after f (Some l.actor) w v
  pub actor : l.actor < actors
  pub ordered : Ordered f w v

abbrev pub LinesFrom : List Sentence → ℕ → List Line → List Sentence → Type 0
LinesFrom f actors [] g = f ≡ g
LinesFrom f actors (l ∷ ls) g = (w : CommandWord) × (v : List Value) × MadeLine f actors l w v × LinesFrom (Orders None w v ∷ f) actors ls g

pub record MadePhase (f : List Sentence) (p : Phase) (g : List Sentence) : Type 0 where
  pub some : 1 ≤ p.actors
  pub few : p.actors ≤ 16
  pub is : p ≡ phase_of p.actors p.lines
  pub lines : LinesFrom f p.actors p.lines g

abbrev pub PhasesFrom : List Sentence → List Phase → List Sentence → Type 0
PhasesFrom f [] g = f ≡ g
PhasesFrom f (p ∷ ps) g = (m : List Sentence) × MadePhase f p m × PhasesFrom m ps g

line_more : (f : List Sentence) (actors : ℕ) (ls : List Line) (g : List Sentence) (l : Line) (w : CommandWord) (v : List Value) → LinesFrom f actors ls g → MadeLine g actors l w v
    → LinesFrom f actors (ls ++ l ∷ []) (Orders None w v ∷ g)
line_more f actors [] g l w v e m = (w, v, subst (λ (x : List Sentence). MadeLine x actors l w v) (sym e) m, ap (λ (x : List Sentence). Orders None w v ∷ x) e)
line_more f actors (k ∷ ls) g l w v h m = (h.0, h.1, h.2, line_more (Orders None h.0 h.1 ∷ f) actors ls g l w v h.3 m)

pub phase_more : (f : List Sentence) (ps : List Phase) (g m : List Sentence) (p : Phase) → PhasesFrom f ps g → MadePhase g p m → PhasesFrom f (ps ++ p ∷ []) m
phase_more f [] g m p e made = (m, subst (λ (x : List Sentence). MadePhase x p m) (sym e) made, refl)
phase_more f (q ∷ ps) g m p h made = (h.0, h.1, phase_more h.0 ps g m p h.2 made)

abbrev pub LastHas : ℕ → List Phase → Type 0
LastHas n [] = ⊥
LastHas n (p ∷ []) = p.actors ≡ n
LastHas n (p ∷ q ∷ ps) = LastHas n (q ∷ ps)

pub last_more : (n : ℕ) (ps : List Phase) (p : Phase) → p.actors ≡ n → LastHas n (ps ++ p ∷ [])
last_more n [] p e = e
last_more n (q ∷ []) p e = e
last_more n (q ∷ r ∷ ps) p e = last_more n (r ∷ ps) p e

made_with : (f : List Sentence) (p : Phase) (g : List Sentence) (l : Line) (w : CommandWord) (v : List Value) → MadePhase f p g → MadeLine g p.actors l w v
    → MadePhase f (with_line l p) (Orders None w v ∷ g)
unfolding phase_of
made_with f p g l w v made m = record { some = made.some; few = made.few; is = refl; lines = line_more f p.actors p.lines g l w v made.lines m }

pub last_line : (f : List Sentence) (ps : List Phase) (g : List Sentence) (n : ℕ) (l : Line) (w : CommandWord) (v : List Value) → PhasesFrom f ps g → LastHas n ps → MadeLine g n l w v
    → PhasesFrom f (at_last l ps) (Orders None w v ∷ g)
unfolding at_last
last_line f [] g n l w v h has m = absurd has
last_line f (p ∷ []) g n l w v h has m =
    (Orders None w v ∷ g, made_with f p g l w v (subst (λ (x : List Sentence). MadePhase f p x) h.2 h.1) (subst (λ (k : ℕ). MadeLine g k l w v) (sym has) m), refl)
last_line f (p ∷ q ∷ ps) g n l w v h has m = (h.0, h.1, last_line h.0 (q ∷ ps) g n l w v h.2 has m)

pub last_kept : (n : ℕ) (l : Line) (ps : List Phase) → LastHas n ps → LastHas n (at_last l ps)
unfolding at_last phase_of
last_kept n l [] h = absurd h
last_kept n l (p ∷ []) h = h
last_kept n l (p ∷ q ∷ []) h = h
last_kept n l (p ∷ q ∷ r ∷ ps) h = last_kept n l (q ∷ r ∷ ps) h
