-- The scripts of a phase, line by line and actor by actor.
use Rattle.std.proofs.Common.{◌≡◌, ℕ, zero, suc, ◌+◌, ◌<◌, List, [], ◌∷◌, ◌++◌, length, take, get_or, map, sym, ap, ◌∙◌, eqb, arith}
use Rattle.std.specs.List.{filter}
use Rattle.std.proofs.lemmas.List.{take_more, map-append}
use Rattle.std.proofs.lemmas.List.Elements.{filter-append}
use Rattle.scen_words.specs.declared.command.Command.{Command}
use Rattle.scen_text.specs.declared.scenario.Line.{Line}
use Rattle.scen_text.specs.declared.scenario.Script.{Script}
use Rattle.scen_text.specs.Before.{script_of, scripts_from}

abbrev pub commands_of : List Line → ℕ → List Command
commands_of lines actor = (script_of lines actor).commands

-- the script of more lines
commands_of-append : (xs ys : List Line) (actor : ℕ) → commands_of (xs ++ ys) actor ≡ commands_of xs actor ++ commands_of ys actor
commands_of-append xs ys actor =
    ap (map (λ (l : Line). l.command)) (filter-append (λ (l : Line). eqb l.actor actor) xs ys)
    ∙ map-append (λ (l : Line). l.command) (filter (λ (l : Line). eqb l.actor actor) xs) (filter (λ (l : Line). eqb l.actor actor) ys)

pub script_more : (now after : List Command) (lines : List Line) (i actor : ℕ) (x d : Line) → i < length lines → x ≡ get_or lines i d
    → now ≡ commands_of (take i lines) actor → after ≡ now ++ commands_of (x ∷ []) actor → after ≡ commands_of (take (i + 1) lines) actor
script_more now after lines i actor x d lt is so_far new =
    let front : take (i + 1) lines ≡ take i lines ++ x ∷ [] = take_more lines i d lt ∙ ap (λ y. take i lines ++ y ∷ []) (sym is) in
    new ∙ ap (λ t. t ++ commands_of (x ∷ []) actor) so_far ∙ sym (commands_of-append (take i lines) (x ∷ []) actor) ∙ ap (λ t. commands_of t actor) (sym front)

scripts_from-push : (lines : List Line) (k n : ℕ) → scripts_from lines k (suc n) ≡ scripts_from lines k n ++ script_of lines (k + n) ∷ []
unfolding scripts_from
scripts_from-push lines k zero =
    let none : k ≡ k + 0 = omega arith in ap (λ j. script_of lines j ∷ []) none
scripts_from-push lines k (suc n) =
    let place : suc k + n ≡ k + suc n = omega arith in
    ap (λ t. script_of lines k ∷ t) (scripts_from-push lines (suc k) n ∙ ap (λ j. scripts_from lines (suc k) n ++ script_of lines j ∷ []) place)

-- one more actor
pub scripts_more : (now after : List Script) (lines : List Line) (n : ℕ) → now ≡ scripts_from lines 0 n → after ≡ now ++ script_of lines n ∷ []
    → after ≡ scripts_from lines 0 (n + 1)
scripts_more now after lines n so_far new =
    let next : suc n ≡ n + 1 = omega arith in
    let none : 0 + n ≡ n = omega arith in
    new ∙ ap (λ t. t ++ script_of lines n ∷ []) so_far ∙ ap (λ j. scripts_from lines 0 n ++ script_of lines j ∷ []) (sym none) ∙ sym (scripts_from-push lines 0 n)
    ∙ ap (scripts_from lines 0) next
