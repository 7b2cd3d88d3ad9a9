-- This project's own: steps and answers on guests as lists of numbers, so that two of them can be compared.
use Rattle.std.specs.Prelude.{ℕ, if◌then◌else◌, Bool, List, [], ◌∷◌, ◌++◌, Option, Some, None, bytes_eq, flat_map}
use Rattle.tap_frame.specs.declared.name.Name.{Name}
use Rattle.tap_trace.specs.declared.answer.Answer.{Answer}
use Rattle.tap_trace.specs.declared.answer.Answer.TheVariants as answer
use Rattle.tap_trace.specs.declared.causes.DriveText.{DriveText}
use Rattle.tap_trace.specs.declared.causes.DriveText.TheVariants as drive
use Rattle.tap_trace.specs.declared.causes.VhostText.{VhostText}
use Rattle.tap_trace.specs.declared.causes.VhostText.TheVariants as vhost
use Rattle.tap_trace.specs.declared.kind.Kind.{Kind}
use Rattle.tap_trace.specs.declared.kind.Kind.TheVariants as kind
use Rattle.tap_trace.specs.declared.turn.ChainText.{ChainText}
use Rattle.tap_trace.specs.declared.turn.ChainText.TheVariants as chain
use Rattle.tap_trace.specs.declared.turn.TurnText.{TurnText}
use Rattle.tap_trace.specs.declared.turn.TurnText.TheVariants as turn
use Rattle.tap_legal.specs.Same.{bad_number, numbers_of}

abbrev pub flag : Bool → ℕ
flag b = if b then 1 else 0

abbrev pub name_code : Name → List ℕ
name_code n = n.actor ∷ n.turn ∷ n.part ∷ []

abbrev pub name_or_none : Option Name → List ℕ
name_or_none None = []
name_or_none (Some n) = name_code n

-- ---- steps

abbrev pub kind_code : Kind → List ℕ
kind_code (kind.Fetch v r position head) = 0 ∷ v ∷ r ∷ position ∷ head ∷ []
kind_code (kind.None v r) = 1 ∷ v ∷ r ∷ []
kind_code (kind.Crowded v r) = 2 ∷ v ∷ r ∷ []
kind_code (kind.Halt v r fault) = 3 ∷ v ∷ r ∷ fault ∷ []
kind_code (kind.Copy v r position name) = 4 ∷ v ∷ r ∷ position ∷ name_or_none name
kind_code (kind.Publish v r count call) = 5 ∷ v ∷ r ∷ count ∷ flag call ∷ []
kind_code (kind.Notices v r on) = 6 ∷ v ∷ r ∷ flag on ∷ []
kind_code (kind.Off v r) = 7 ∷ v ∷ r ∷ []
kind_code (kind.Stopped v r) = 8 ∷ v ∷ r ∷ []
kind_code (kind.Features v) = 9 ∷ v ∷ []
kind_code (kind.Num v r) = 10 ∷ v ∷ r ∷ []
kind_code (kind.Base v r) = 11 ∷ v ∷ r ∷ []
kind_code (kind.Addr v r) = 12 ∷ v ∷ r ∷ []
kind_code (kind.GetBase v r) = 13 ∷ v ∷ r ∷ []
kind_code (kind.Backend v r set) = 14 ∷ v ∷ r ∷ flag set ∷ []
kind_code kind.Poke = 15 ∷ []
kind_code kind.Peek = 16 ∷ []
kind_code (kind.Drive v r) = 17 ∷ v ∷ r ∷ []
kind_code (kind.Post v r) = 18 ∷ v ∷ r ∷ []
kind_code (kind.Harvest v r) = 19 ∷ v ∷ r ∷ []

abbrev pub same_kind : Kind → Kind → Bool
same_kind a b = bytes_eq (kind_code a) (kind_code b)

-- ---- answers

abbrev pub vhost_code : VhostText → List ℕ
vhost_code vhost.EINVAL = 1 ∷ []
vhost_code vhost.EBUSY = 2 ∷ []
vhost_code vhost.EFAULT = 3 ∷ []
vhost_code vhost.ENOBUFS = 4 ∷ []
vhost_code (vhost.EHDR want have) = 5 ∷ want ∷ have ∷ []
vhost_code vhost.ENOTSUP = 6 ∷ []

abbrev pub drive_code : DriveText → List ℕ
drive_code drive.Unaligned = 1 ∷ []
drive_code (drive.Outside bad) = 2 ∷ bad ∷ []
drive_code (drive.TooLong len) = 3 ∷ len ∷ []
drive_code (drive.Full need free) = 4 ∷ need ∷ free ∷ []
drive_code (drive.Stray id) = 5 ∷ id ∷ []

abbrev pub end_code : TurnText → List ℕ
end_code turn.Idle = 1 ∷ []
end_code (turn.Short need had) = 2 ∷ need ∷ had ∷ []
end_code turn.Again = 3 ∷ []
end_code (turn.Stopped fault) = 4 ∷ fault ∷ []
end_code turn.Off = 5 ∷ []

abbrev pub chain_code : ChainText → List ℕ
chain_code (chain.Got name len fnv) = 1 ∷ (name_code name ++ len ∷ fnv ∷ [])
chain_code (chain.Refused position bad) = 2 ∷ position ∷ bad_number bad ∷ []

-- the answers that commands on guests have; all others are one code
abbrev pub answer_code : Answer → List ℕ
answer_code answer.Done = 1 ∷ []
answer_code (answer.Version version) = 2 ∷ []
answer_code (answer.Base n) = 3 ∷ n ∷ []
answer_code (answer.Peeked bytes) = 4 ∷ bytes
answer_code (answer.Posted head) = 5 ∷ head ∷ []
answer_code (answer.Harvested found) = 6 ∷ flat_map (λ (f : ℕ × ℕ). f.0 ∷ f.1 ∷ []) found
answer_code answer.NoDriver = 7 ∷ []
answer_code (answer.Fault bad) = 8 ∷ bad ∷ []
answer_code (answer.Turn packets bytes end chains) = 9 ∷ packets ∷ bytes ∷ (end_code end ++ flat_map chain_code chains)
answer_code (answer.Vhost e) = 10 ∷ vhost_code e
answer_code (answer.Drive e) = 11 ∷ drive_code e
answer_code (answer.Tap e) = 12 ∷ (numbers_of e).0 ∷ (numbers_of e).1 ∷ []
answer_code other = 0 ∷ []

-- which version an `ok VERSION` tells is looked at in clause a
abbrev pub same_answer : Answer → Answer → Bool
same_answer a b = bytes_eq (answer_code a) (answer_code b)
