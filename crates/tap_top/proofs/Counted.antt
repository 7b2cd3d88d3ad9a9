-- How many commands there are.
use Rattle.std.proofs.Common.{◌≡◌, ℕ, ◌+◌, ◌<◌, List, [], ◌∷◌, ◌++◌, length, take, get_or, sym, ap, ◌∙◌, arith}
use Rattle.std.proofs.lemmas.List.{take_more}
use Rattle.scen_text.specs.declared.scenario.Phase.{Phase}
use Rattle.tap_top.specs.Top.{command_count}

command_count-push : (ps : List Phase) (p : Phase) → command_count (ps ++ p ∷ []) ≡ command_count ps + length p.lines
command_count-push [] p = omega arith
command_count-push (q ∷ qs) p = omega (arith, command_count-push qs p)

pub count_more : (i : ℕ) (ps : List Phase) (p d : Phase) (count after : ℕ) → i < length ps → p ≡ get_or ps i d → count ≡ command_count (take i ps)
    → after ≡ count + length p.lines → after ≡ command_count (take (i + 1) ps)
count_more i ps p d count after lt is so_far sum =
    let front : take (i + 1) ps ≡ take i ps ++ p ∷ [] = take_more ps i d lt ∙ ap (λ (x : Phase). take i ps ++ x ∷ []) (sym is) in
    let whole : command_count (take (i + 1) ps) ≡ command_count (take i ps) + length p.lines = ap command_count front ∙ command_count-push (take i ps) p in
    omega arith
