-- This project's own: which answers, places and steps a text can stand for. Numbers are held to the types of the
-- fields.
use Rattle.std.specs.Prelude.{ℕ, ◌<◌}
use Rattle.std.specs.List.{AllByRecursion}
use Rattle.tap_trace.specs.declared.answer.Answer.{Answer}
use Rattle.tap_trace.specs.declared.answer.Answer.TheVariants as answer
use Rattle.tap_trace.specs.declared.kind.Kind.{Kind}
use Rattle.tap_trace.specs.declared.kind.Kind.TheVariants as kind
use Rattle.tap_trace.specs.declared.trace.AnswerLine.{AnswerLine}
use Rattle.tap_trace.specs.declared.trace.OpLine.{OpLine}
use Rattle.tap_trace.specs.declared.trace.PlaceLine.{PlaceLine}
use Rattle.tap_trace.specs.declared.trace.StepLine.{StepLine}
use Rattle.tap_trace.specs.declared.turn.ChainText.{ChainText}
use Rattle.tap_trace.specs.declared.turn.ChainText.TheVariants.{Got, Refused}
use Rattle.text_fields.specs.Hexadecimal.{AreBytes}
use Rattle.trace_causes.specs.Fits.{FitBad, FitDrive, FitDrop, FitEnd, FitFate, FitHarvested, FitName, FitOp, FitSomeName, FitVhost, Is16, Is32, Is64, IsRing}

-- ---- answers

abbrev pub FitChain : ChainText → Type 0
FitChain (Got name len fnv) = FitName name × Is32 len × Is32 fnv
FitChain (Refused position bad) = Is16 position × FitBad bad

abbrev pub FitAnswer : Answer → Type 0
FitAnswer answer.Done = Unit {0}
FitAnswer (answer.Version version) = Is64 version
FitAnswer (answer.Resized version claimed freed cut) = Is64 version × Is64 claimed × Is64 freed × Is64 cut
FitAnswer (answer.Host len fnv) = Is32 len × Is32 fnv
FitAnswer (answer.Base position) = Is16 position
FitAnswer (answer.Peeked bytes) = AreBytes bytes
FitAnswer (answer.Posted head) = Is16 head
FitAnswer (answer.Harvested chains) = AllByRecursion FitHarvested chains
FitAnswer answer.NoDriver = Unit {0}
FitAnswer (answer.Fault addr) = Is64 addr
FitAnswer (answer.Turn packets bytes end chains) =
    Is32 packets × Is64 bytes × FitEnd end × AllByRecursion FitChain chains
FitAnswer (answer.Bad bad) = FitBad bad
FitAnswer (answer.Placed file place epoch len) = Is16 file × Is64 place × Is16 epoch × Is32 len
FitAnswer (answer.Dropped file cause) = FitDrop file cause
FitAnswer (answer.Read name place bytes) = FitName name × Is64 place × AllByRecursion (λ b. b < 256) bytes
FitAnswer (answer.Room least) = Is64 least
FitAnswer answer.Busy = Unit {0}
FitAnswer (answer.Again place) = Is64 place
FitAnswer (answer.Tap why) = Unit {0}
FitAnswer (answer.Vhost why) = FitVhost why
FitAnswer (answer.Drive why) = FitDrive why

-- ---- steps

abbrev pub FitKind : Kind → Type 0
FitKind (kind.Fetch vhost ring position head) = IsRing vhost ring × Is16 position × Is16 head
FitKind (kind.Halt vhost ring fault) = IsRing vhost ring × (fault < 256)
FitKind (kind.Copy vhost ring position name) = IsRing vhost ring × Is16 position × FitSomeName name
FitKind (kind.Publish vhost ring count call) = IsRing vhost ring × Is16 count
FitKind (kind.Notices vhost ring on) = IsRing vhost ring
FitKind (kind.Backend vhost ring set) = IsRing vhost ring
FitKind (kind.None vhost ring) = IsRing vhost ring
FitKind (kind.Crowded vhost ring) = IsRing vhost ring
FitKind (kind.Off vhost ring) = IsRing vhost ring
FitKind (kind.Stopped vhost ring) = IsRing vhost ring
FitKind (kind.Features vhost) = Is16 vhost
FitKind (kind.Num vhost ring) = IsRing vhost ring
FitKind (kind.Base vhost ring) = IsRing vhost ring
FitKind (kind.Addr vhost ring) = IsRing vhost ring
FitKind (kind.GetBase vhost ring) = IsRing vhost ring
FitKind kind.Poke = Unit {0}
FitKind kind.Peek = Unit {0}
FitKind (kind.Drive vhost ring) = IsRing vhost ring
FitKind (kind.Post vhost ring) = IsRing vhost ring
FitKind (kind.Harvest vhost ring) = IsRing vhost ring

-- ---- lines

abbrev pub FitOpLine : OpLine → Type 0
FitOpLine o = Is64 o.version × Is32 o.command × FitOp o.text

abbrev pub FitAnswerLine : AnswerLine → Type 0
FitAnswerLine a = Is16 a.actor × Is32 a.command × Is64 a.seen × FitAnswer a.answer

abbrev pub FitPlace : PlaceLine → Type 0
FitPlace l = Is64 l.place × Is16 l.epoch × FitName l.name × Is32 l.len × FitFate l.fate

abbrev pub FitStep : StepLine → Type 0
FitStep s = Is16 s.actor × Is32 s.command × FitKind s.kind

abbrev pub FitUsed : ℕ × ℕ × ℕ → Type 0
FitUsed u = Is16 u.0 × Is16 u.1 × Is32 u.2
