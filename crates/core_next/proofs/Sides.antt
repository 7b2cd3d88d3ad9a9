-- This project's own: files and vhosts of the world, as they are looked up.
use Rattle.std.proofs.Common.{◌≡◌, ℕ, List, false, Option, Some, None, refl, sym, ap, ◌∙◌}
use Rattle.std.specs.Borrow.{Bor}
use Rattle.std.specs.Prelude.{is_some, option_map}
use Rattle.std.specs.Option.{option_copied}
use Rattle.tap_guests.specs.Side.{Side}
use Rattle.tap_lines.specs.Files.{files_of}
use Rattle.tap_lines.specs.Placed.{Placed}
use Rattle.tap_world.specs.ByNumber.{at}
use Rattle.core_shared.specs.Worlds.{vhosts_of}
use Rattle.core_shared.proofs.Kit.{files_at, vhosts_at}

none_of : (o : Option Placed) → is_some o ≡ false → o ≡ None
none_of None h = refl
none_of (Some p) h = absurd (cc (h))

-- a file that isn't there isn't in the world
pub no_file : (n : ℕ) (files : List (Option Placed)) → is_some (at files n) ≡ false → None ≡ at (files_of files) n
no_file n files h = sym (files_at n files ∙ ap (λ (o : Option Placed). option_map (λ (p : Placed). p.file) o) (none_of (at files n) h))

-- what is found of a vhost is its vhost in the world
found_side : (r : Option (Bor Side)) → option_map (λ (s : Bor Side). s.now.vhost) r ≡ option_map (λ (s : Side). s.vhost) (option_copied r)
found_side None = refl
found_side (Some s) = refl

pub vhost_found : (r : Option (Bor Side)) (n : ℕ) (vhosts : List (Option Side)) → option_copied r ≡ at vhosts n
    → option_map (λ (s : Bor Side). s.now.vhost) r ≡ at (vhosts_of vhosts) n
vhost_found r n vhosts h =
    found_side r ∙ ap (λ (o : Option Side). option_map (λ (s : Side). s.vhost) o) h ∙ sym (vhosts_at n vhosts)
