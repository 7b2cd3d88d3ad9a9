-- The kind of an event is that of the next one of its command.
use Rattle.std.proofs.Common.{◌≡◌, List, [], ◌∷◌, Bool, true, false, Option, Some, None, ⊎_elim, refl, sym, ap, ◌∙◌, subst, true≢false}
use Rattle.std.specs.Prelude.{if◌then◌else◌, slice_index_or}
use Rattle.std.specs.Option.{option_map_or}
use Rattle.std.proofs.lemmas.Bool.Decides.{eqb_tells}
use Rattle.tap_world.specs.declared.event.EventKind.{EventKind}
use Rattle.tap_world.specs.declared.event.EventKind.TheVariants as event
use Rattle.tap_world.specs.Line.{File}
use Rattle.tap_world.specs.Scripts.{is_kind, kind_number}

abbrev all_kinds : List EventKind
all_kinds =
    event.Look ∷ event.Publish ∷ event.Claim ∷ event.Ready ∷ event.Full ∷ event.Gone ∷ event.Spent ∷ event.Shut
    ∷ event.Reopen ∷ event.Resize ∷ event.Cut ∷ event.Move ∷ event.Hand ∷ event.PutBack ∷ event.Out ∷ event.NotReady
    ∷ event.Owner ∷ event.Fetch ∷ event.Copy ∷ event.PublishUsed ∷ event.Notices ∷ event.Poke ∷ event.Peek
    ∷ event.Drive ∷ event.HostIn ∷ []

of_number : (k : EventKind) → slice_index_or all_kinds (kind_number k) event.Look ≡ k
of_number event.Look = refl
of_number event.Publish = refl
of_number event.Claim = refl
of_number event.Ready = refl
of_number event.Full = refl
of_number event.Gone = refl
of_number event.Spent = refl
of_number event.Shut = refl
of_number event.Reopen = refl
of_number event.Resize = refl
of_number event.Cut = refl
of_number event.Move = refl
of_number event.Hand = refl
of_number event.PutBack = refl
of_number event.Out = refl
of_number event.NotReady = refl
of_number event.Owner = refl
of_number event.Fetch = refl
of_number event.Copy = refl
of_number event.PublishUsed = refl
of_number event.Notices = refl
of_number event.Poke = refl
of_number event.Peek = refl
of_number event.Drive = refl
of_number event.HostIn = refl

same_kind : (k j : EventKind) → is_kind k (Some j) ≡ true → k ≡ j
same_kind k j e = ⊎_elim
    (λ t. sym (of_number k) ∙ ap (λ n. slice_index_or all_kinds n event.Look) (sym t.1) ∙ of_number j)
    (λ t. absurd (true≢false (sym e ∙ t.0)))
    (eqb_tells (kind_number j) (kind_number k))

-- what holds of the next kind, holds of the event's
pub at_kind : (P : EventKind → Type 0) (k j : EventKind) → is_kind k (Some j) ≡ true → P j → P k
at_kind P k j e h = subst P (sym (same_kind k j e)) h

-- and where that is told by a file
pub at_file_kind : (P : EventKind → Type 0) (o : Option File) (kind : File → EventKind) (k : EventKind)
    → is_kind k (option_map_or (λ f. Some (kind f)) o None) ≡ true → ((f : File) → o ≡ Some f → P (kind f)) → P k
at_file_kind P None kind k e h = absurd (true≢false (sym e))
at_file_kind P (Some f) kind k e h = at_kind P k (kind f) e (h f refl)

-- one of two kinds
pub either_kind : (P : EventKind → Type 0) (b : Bool) (j k : EventKind) → (b ≡ true → P j) → (b ≡ false → P k)
    → P (if b then j else k)
either_kind P true j k x y = x refl
either_kind P false j k x y = y refl
