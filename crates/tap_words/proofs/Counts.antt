-- A number of sends that words ask for is in its range.
use Rattle.std.proofs.Common.{◌≡◌, ℕ, ◌≤◌, Bool, true, false, cond, ◌&&◌, not, leb, List, [], ◌∷◌, codes, is_some, Option, Some, None, option_map, refl}
use Rattle.std.specs.Prelude.{option_and_then}
use Rattle.std.specs.Str.{bytes_eq}
use Rattle.std.proofs.lemmas.Bool.{and_parts, leb-true}
use Rattle.clap.specs.Words.{Text}
use Rattle.text_fields.specs.Numbers.{in_range, number_of}
use Rattle.tap_words.specs.declared.request.Request.{Request}
use Rattle.tap_words.specs.declared.request.Request.TheVariants.{Check, Plain, Live, Audit, Gen, Upgrade}
use Rattle.tap_ground.specs.Options.{only_if as when}
use Rattle.tap_words.specs.Words.{CountFits, CountsFit, Given, alone, asked_by, given, seed_of, with_number}

choose : (b : Bool) (x y : Option Request) → CountFits x → CountFits y → CountFits (cond b x y)
choose true x y p q = p
choose false x y p q = q

when_fits : (b : Bool) (r : Request) → CountFits (Some r) → CountFits (when b r)
when_fits true r p = p
when_fits false r p = tt

plain_fits : (json : Bool) (seed : Option ℕ) → CountFits (option_map (λ n. Plain n json) seed)
plain_fits json None = tt
plain_fits json (Some n) = tt

alone_fits : (word : Text) (seed : Option Text) (json : Bool) → CountFits (alone word seed json)
alone_fits word seed json =
    let bare = not (is_some seed) && not json in
    choose (bytes_eq word (codes "check")) _ _ (when_fits bare Check tt)
    (choose (bytes_eq word (codes "plain")) _ _ (plain_fits json (seed_of seed))
    (choose (bytes_eq word (codes "live")) _ _ (when_fits (not (is_some seed)) (Live json) tt)
    (choose (bytes_eq word (codes "audit")) _ _ (when_fits bare Audit tt)
    (choose (bytes_eq word (codes "upgrade")) _ _ (when_fits bare Upgrade tt) tt))))

in_test : (b : Bool) (n : ℕ) → (b ≡ true → (1 ≤ n) × (n ≤ 100000)) → CountFits (option_map Gen (cond b (Some n) None))
in_test true n p = p refl
in_test false n p = tt

both : (n : ℕ) → (leb 1 n && leb n 100000) ≡ true → (1 ≤ n) × (n ≤ 100000)
both n e = let p = and_parts (leb 1 n) (leb n 100000) e in (leb-true 1 n p.0, leb-true n 100000 p.1)

number_fits : (o : Option ℕ) → CountFits (option_map Gen (in_range 1 100000 o))
number_fits None = tt
number_fits (Some n) = in_test (leb 1 n && leb n 100000) n (both n)

with_number_fits : (word number : Text) (seed : Option Text) (json : Bool) → CountFits (with_number word number seed json)
with_number_fits word number seed json = choose (bytes_eq word (codes "gen") && not (is_some seed) && not json) _ _ (number_fits (number_of number)) tt

asked_fits : (plain : List Text) (seed : Option Text) (json : Bool) → CountFits (asked_by plain seed json)
unfolding asked_by
asked_fits [] seed json = tt
asked_fits (word ∷ []) seed json = alone_fits word seed json
asked_fits (word ∷ number ∷ []) seed json = with_number_fits word number seed json
asked_fits (word ∷ number ∷ more ∷ rest) seed json = tt

by_given : (o : Option Given) → CountFits (option_and_then (λ (g : Given). asked_by g.plain g.seed g.json) o)
by_given None = tt
by_given (Some g) = asked_fits g.plain g.seed g.json

pub counts_fit : CountsFit
counts_fit words = by_given (given words)
