-- Steady worlds of laid scenarios can be told.
use Rattle.std.proofs.Common.{◌≡◌, ℕ, zero, suc, ◌<◌, ◌==◌, Bool, true, false, cond, List, [], ◌∷◌, length, map, Option, Some, None, sym, ap, subst, ◌∙◌, arith}
use Rattle.std.specs.Prelude.{filter, slice_get, option_map, IfSome}
use Rattle.std.specs.List.{AllByRecursion}
use Rattle.std.proofs.lemmas.List.{length-map}
use Rattle.scen_laid.specs.Laid.{IsLaid}
use Rattle.scen_laid.specs.Phases.{IsLine, IsPhase}
use Rattle.scen_text.specs.declared.scenario.Line.{Line}
use Rattle.scen_text.specs.declared.scenario.Scenario.{Scenario}
use Rattle.scen_words.specs.declared.command.Command.{Command}
use Rattle.scen_words.specs.declared.command.Command.TheVariants as command
use Rattle.tap_guests.specs.Side.{Side}
use Rattle.tap_lines.specs.Files.{files_of}
use Rattle.tap_lines.specs.Placed.{Placed}
use Rattle.tap_steer.specs.declared.operation.Op.{Op}
use Rattle.tap_steer.specs.declared.operation.Op.TheVariants as op
use Rattle.tap_world.specs.Guests.{Guest, Vhost}
use Rattle.tap_world.specs.Line.{File}
use Rattle.tap_world.specs.Setup.{Declared, NamesDeclared, Numbered, Setup, place_of, script_in, setup_of}
use Rattle.tap_world.specs.Steady.{IsOpOf, IsPublished, IsSteady}
use Rattle.tap_world.specs.StepBackend.{side_of}
use Rattle.tap_world.specs.World.{World}
use Rattle.tap_world.specs.declared.told.Published.{Published}
use Rattle.tap_told.specs.Devices.{HasDevice, device_in}
use Rattle.tap_told.specs.Needs.{CanBeTold, vhosts_of}
use Rattle.tap_told.proofs.Declared.{names_of_setup, phases_of_setup}

-- ---- an operation's device

abbrev HasName : List (List ℕ) → Op → Type 0
HasName names x = IfSome (device_in x) (λ device. device < length names)

same_op : (names : List (List ℕ)) (y x : Op) → Some y ≡ Some x → HasName names y → HasName names x
same_op names y x e h = subst (λ (o : Option Op). IfSome o (HasName names)) e h

nameless : (names : List (List ℕ)) (y x : Op) → x ≡ y → HasName names y → HasName names x
nameless names y x e h = subst (HasName names) (sym e) h

no_op : (names : List (List ℕ)) (x : Op) → None ≡ Some x → HasName names x
no_op names x e = absurd (cc e)

-- the operation of a command names what the command names
named : (s : Setup) (c : Command) (x : Op) → IsOpOf s c x → NamesDeclared s c → HasName s.names x
named s (command.SetIff file name flags) x h d = same_op s.names (op.SetIff file name flags) x h d.device
named s (command.SetQueue file flags) x h d = same_op s.names (op.SetQueue file flags) x h tt
named s (command.Close file) x h d = same_op s.names (op.Shut file) x h tt
named s (command.Persist file on) x h d = same_op s.names (op.Persist file on) x h tt
named s (command.HdrSize file size) x h d = same_op s.names (op.HdrSize file size) x h tt
named s (command.Steer file program) x h d = same_op s.names (op.Steering file (place_of s program)) x h tt
named s (command.Filter file program) x h d = same_op s.names (op.Filter file (place_of s program)) x h tt
named s (command.Tick now) x h d = same_op s.names (op.Tick now) x h tt
named s (command.Resize file capacity) x h d = same_op s.names (op.Resize file capacity) x h tt
named s (command.Write file bytes) x h d = nameless s.names (op.Learn file h.0) x h.1 tt
named s (command.TxTurn vhost) x h d = nameless s.names (op.Learn h.0 h.1) x h.2 tt
named s (command.Backend vhost ring (Some file)) x h d = nameless s.names (op.Back file (side_of ring) (Some vhost)) x h.1 tt
named s (command.Backend vhost ring None) x h d = nameless s.names (op.Back h.1 (side_of ring) None) x h.2 tt
named s (command.Send device hdr bytes) x h d = no_op s.names x h
named s (command.Read file room) x h d = no_op s.names x h
named s (command.Features vhost bits) x h d = no_op s.names x h
named s (command.VNum vhost ring num) x h d = no_op s.names x h
named s (command.VBase vhost ring base) x h d = no_op s.names x h
named s (command.VAddr vhost ring desc avail used) x h d = no_op s.names x h
named s (command.GetBase vhost ring) x h d = no_op s.names x h
named s (command.RxTurn vhost) x h d = no_op s.names x h
named s (command.Poke guest addr bytes) x h d = no_op s.names x h
named s (command.Peek guest addr len) x h d = no_op s.names x h
named s (command.DriveAt vhost ring addr) x h d = no_op s.names x h
named s (command.PostIn vhost ring lens) x h d = no_op s.names x h
named s (command.PostOut vhost ring bytes) x h d = no_op s.names x h
named s (command.Harvest vhost ring) x h d = no_op s.names x h

-- ---- the commands of scripts

at_place : {X : Type 0} (P : X → Type 0) (xs : List X) (i : ℕ) (x : X) → AllByRecursion P xs → slice_get xs i ≡ Some x → P x
at_place P [] zero x all e = absurd (cc e)
at_place P [] (suc i) x all e = absurd (cc e)
at_place P (y ∷ ys) zero x all e = subst (λ o. IfSome o P) e all.0
at_place P (y ∷ ys) (suc i) x all e = at_place P ys i x all.1 e

abbrev IsDeclared : Setup → Numbered → Type 0
IsDeclared s c = NamesDeclared s c.command

abbrev numbered_of : Line → Numbered
numbered_of l = record { number = l.number; command = l.command }

one_kept : (s : Setup) (b : Bool) (l : Line) (ls : List Line) → NamesDeclared s l.command → AllByRecursion (IsDeclared s) (map numbered_of ls)
    → AllByRecursion (IsDeclared s) (map numbered_of (cond b (l ∷ ls) ls))
one_kept s true l ls its rest = (its, rest)
one_kept s false l ls its rest = rest

in_script : (s : Setup) (actors actor : ℕ) (ls : List Line) → AllByRecursion (IsLine s actors) ls
    → AllByRecursion (IsDeclared s) (map numbered_of (filter (λ (l : Line). l.actor == actor) ls))
in_script s actors actor [] all = tt
in_script s actors actor (l ∷ ls) all =
    one_kept s (l.actor == actor) l (filter (λ (k : Line). k.actor == actor) ls) all.0.declared (in_script s actors actor ls all.1)

-- ---- all of it

module _ (s : Scenario) (w : World) (laid : IsLaid s) where
  has_device : (p : Published) → IsPublished (setup_of s) w p → HasDevice s.names p
  has_device p h =
      let at = ap (λ ps. slice_get ps p.phase) (sym (phases_of_setup s)) ∙ h.is_phase in
      let phase = at_place (IsPhase (setup_of s)) s.phases p.phase h.phase laid.phases at in
      let commands = in_script (setup_of s) h.phase.actors p.actor h.phase.lines phase.lines in
      let its = at_place (IsDeclared (setup_of s)) (script_in h.phase p.actor) h.index h.command commands h.is_command in
      subst (λ (names : List (List ℕ)). HasName names p.op) (names_of_setup s) (named (setup_of s) h.command.command p.op h.op its)

  have_devices : (ps : List Published) → AllByRecursion (IsPublished (setup_of s) w) ps → AllByRecursion (HasDevice s.names) ps
  have_devices [] all = tt
  have_devices (p ∷ ps) all = (has_device p all.0, have_devices ps all.1)

  pub can_be_told : (files : List (Option Placed)) (sides : List (Option Side)) → IsSteady (setup_of s) w → files_of files ≡ w.files
      → vhosts_of sides ≡ w.vhosts → CanBeTold s w.ops files w.guests sides
  can_be_told files sides steady same_files same_vhosts =
      let there = steady.there in
      let declared = setup_of s in
      let file_count : length files ≡ length declared.files =
      sym (length-map files (λ (p : Option Placed). option_map (λ (x : Placed). x.file) p)) ∙ ap length same_files
      ∙ sym (length-map w.files (λ (f : Option File). option_map (λ (x : File). x.first) f)) ∙ ap length there.files
      ∙ length-map declared.files (λ (d : Option Declared). option_map (λ (x : Declared). x.first) d) in
      let guest_count : length w.guests ≡ length declared.guests =
      sym (length-map w.guests (λ (g : Option Guest). option_map (λ (x : Guest). x.memory.regions) g)) ∙ ap length there.guests in
      let vhost_count : length sides ≡ length declared.vhosts =
      sym (length-map sides (λ (v : Option Side). option_map (λ (x : Side). x.vhost) v)) ∙ ap length same_vhosts
      ∙ sym (length-map w.vhosts (λ (v : Option Vhost). option_map (λ (x : Vhost). x.guest) v)) ∙ ap length there.vhosts in
      record {
        devices = have_devices w.ops steady.ops.published;
        few_files = let few = laid.few.files in omega (arith, file_count, few);
        few_guests = let few = laid.few.guests in omega (arith, guest_count, few);
        few_vhosts = let few = laid.few.vhosts in omega (arith, vhost_count, few);
      }
