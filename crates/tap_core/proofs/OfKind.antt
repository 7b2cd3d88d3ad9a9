-- This project's own: an event of the next kind is of that kind.
use Rattle.std.proofs.Common.{◌≡◌, List, [], ◌∷◌, true, Option, Some, None, ⊎_elim, refl, sym, ap, ◌∙◌, true≢false}
use Rattle.std.proofs.lemmas.Bool.Decides.{eqb_tells}
use Rattle.std.specs.Prelude.{slice_index_or}
use Rattle.tap_world.specs.declared.event.EventKind.{EventKind}
use Rattle.tap_world.specs.declared.event.EventKind.TheVariants as event
use Rattle.tap_world.specs.Scripts.{is_kind, kind_number}

abbrev all_kinds : List EventKind
all_kinds = event.Look ∷ event.Publish ∷ event.Claim ∷ event.Ready ∷ event.Full ∷ event.Gone ∷ event.Spent ∷ event.Shut ∷ event.Reopen ∷ event.Resize ∷ event.Cut ∷ event.Move ∷ event.Hand ∷ event.PutBack ∷ event.Out ∷ event.NotReady ∷ event.Owner ∷ event.Fetch ∷ event.Copy ∷ event.PublishUsed ∷ event.Notices ∷ event.Poke ∷ event.Peek ∷ event.Drive ∷ event.HostIn ∷ []

of_number : (k : EventKind) → slice_index_or all_kinds (kind_number k) event.Look ≡ k
of_number event.Look = refl
of_number event.Publish = refl
of_number event.Claim = refl
of_number event.Ready = refl
of_number event.Full = refl
of_number event.Gone = refl
of_number event.Spent = refl
of_number event.Shut = refl
of_number event.Reopen = refl
of_number event.Resize = refl
of_number event.Cut = refl
of_number event.Move = refl
of_number event.Hand = refl
of_number event.PutBack = refl
of_number event.Out = refl
of_number event.NotReady = refl
of_number event.Owner = refl
of_number event.Fetch = refl
of_number event.Copy = refl
of_number event.PublishUsed = refl
of_number event.Notices = refl
of_number event.Poke = refl
of_number event.Peek = refl
of_number event.Drive = refl
of_number event.HostIn = refl

pub next_is : (k : EventKind) (next : Option EventKind) → is_kind k next ≡ true → next ≡ Some k
next_is k None e = absurd (true≢false (sym e))
next_is k (Some j) e =
    ap Some
    (⊎_elim (λ t. sym (of_number j) ∙ ap (λ n. slice_index_or all_kinds n event.Look) t.1 ∙ of_number k)
    (λ t. absurd (true≢false (sym e ∙ t.0)))
    (eqb_tells (kind_number j) (kind_number k)))
