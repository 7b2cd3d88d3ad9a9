-- The counts of all frames, and what they show.
use Rattle.std.proofs.Common.{◌≡◌, ℕ, ◌+◌, ◌-◌, min, List, [], ◌∷◌, ◌++◌, length, Bool, refl, sym, ap, ◌∙◌, arith}
use Rattle.std.specs.Prelude.{sum_by}
use Rattle.std.proofs.lemmas.List.{length-append}
use Rattle.std.proofs.lemmas.List.Sums.{sum_by-cons, sum_by_push}
use Rattle.scen_text.specs.declared.scenario.Scenario.{Scenario}
use Rattle.tap_ledger.specs.declared.counters.Counters.{Counters}
use Rattle.tap_ledger.specs.declared.fate.Fate.{Fate}
use Rattle.tap_ledger.specs.declared.fate.Fate.TheVariants.{Waiting, Read, Guest, Host, Discarded}
use Rattle.tap_ledger.specs.Counters.{Counts, IsCounted, has_cause, how_many, is_guest, is_host, is_read, is_waiting, one_if}
use Rattle.tap_trace.specs.declared.trace.Trace.{Trace}
use Rattle.tap_report.specs.declared.summary.Summary.{Summary}
use Rattle.tap_report.specs.Report.{CountsCapped, IsReport, discarded, is_discarded, report_of, total_in, total_of}
use Rattle.tap_report.specs.Rows.{capped, fates_of_run}

-- ---- one more frame

-- one more among those of which a test holds
more : (test : Fate → Bool) (fates : List (Fate × ℕ)) (fate : Fate) (len old new : ℕ) → old ≡ how_many test fates → new ≡ old + one_if (test fate)
    → new ≡ how_many test (fates ++ (fate, len) ∷ [])
more test fates fate len old new was is =
    is ∙ ap (λ n. n + one_if (test fate)) was ∙ sym (sum_by_push (λ (f : Fate × ℕ). one_if (test f.0)) fates (fate, len))

capped_len : (s n : ℕ) → min s 18446744073709551615 + min n (18446744073709551615 - min s 18446744073709551615) ≡ min (s + n) 18446744073709551615
capped_len s n = omega arith

-- the counts of the frames with one more, of whose length so much was added as there is room for
pub one_more : (fate : Fate) (len added : ℕ) (old new : Counters) (fates : List (Fate × ℕ)) → IsCounted fate added old new
    → added ≡ min len (18446744073709551615 - old.bytes) → CountsCapped old fates → CountsCapped new (fates ++ (fate, len) ∷ [])
one_more fate len added old new fates is room was =
    let lens : ℕ = sum_by (λ (f : Fate × ℕ). f.1) fates in
    let before : old.bytes ≡ capped lens = was.bytes in
    record {
      accepted = omega (arith, is.accepted, was.accepted, length-append fates ((fate, len) ∷ []));
      waiting = more is_waiting fates fate len _ _ was.waiting is.waiting;
      read = more is_read fates fate len _ _ was.read is.read;
      guest = more is_guest fates fate len _ _ was.guest is.guest;
      host = more is_host fates fate len _ _ was.host is.host;
      by_cause = λ k small. more (has_cause k) fates fate len _ _ (was.by_cause k small) (is.by_cause k small);
      bytes = is.bytes ∙ ap (λ n. old.bytes + n) room
          ∙ ap (λ n. n + min len (18446744073709551615 - n)) before ∙ capped_len lens len
          ∙ ap capped (sym (sum_by_push (λ (f : Fate × ℕ). f.1) fates (fate, len)));
    }

-- no frames
pub none_counted : (c : Counters) → Counts c [] → CountsCapped c []
none_counted c is = record {
  accepted = is.accepted;
  waiting = is.waiting;
  read = is.read;
  guest = is.guest;
  host = is.host;
  by_cause = is.by_cause;
  bytes = is.bytes;
}

-- ---- what is shown

one_kind : (f : Fate) → one_if (is_waiting f) + one_if (is_read f) + one_if (is_guest f) + one_if (is_host f) + one_if (is_discarded f) ≡ 1
one_kind Waiting = refl
one_kind Read = refl
one_kind Guest = refl
one_kind Host = refl
one_kind (Discarded cause) = refl

how_many-cons : (test : Fate → Bool) (f : Fate × ℕ) (fs : List (Fate × ℕ)) → how_many test (f ∷ fs) ≡ one_if (test f.0) + how_many test fs
how_many-cons test f fs = sum_by-cons (λ (f : Fate × ℕ). one_if (test f.0)) f fs

-- each frame is of one kind
all_kinds : (fs : List (Fate × ℕ)) → how_many is_waiting fs + how_many is_read fs + how_many is_guest fs + how_many is_host fs + how_many is_discarded fs ≡ length fs
all_kinds [] = refl
all_kinds (f ∷ fs) =
    let rest = all_kinds fs in
    let one = one_kind f.0 in
    omega (arith, rest, one, how_many-cons is_waiting f fs, how_many-cons is_read f fs, how_many-cons is_guest f fs, how_many-cons is_host f fs, how_many-cons is_discarded f fs)

discarded_is : (c : Counters) (fates : List (Fate × ℕ)) → CountsCapped c fates → discarded c ≡ how_many is_discarded fates
discarded_is c fates is = omega (arith, c.each_once, is.accepted, is.waiting, is.read, is.guest, is.host, all_kinds fates)

total_is : (c : Counters) (fates : List (Fate × ℕ)) → CountsCapped c fates → total_in c ≡ total_of fates
total_is c fates is = λ i. record {
  accepted = is.accepted i;
  waiting = is.waiting i;
  delivered = is.read i + is.guest i + is.host i;
  discarded = discarded_is c fates is i;
}

pub is_report : (s : Scenario) (t : Trace) (r : Summary) → r.devices ≡ (report_of s t).devices → r.files ≡ (report_of s t).files → r.rings ≡ (report_of s t).rings
    → CountsCapped r.total (fates_of_run s t) → IsReport s t r
is_report s t r devices files rings total = record {
  rows = λ i. record { devices = devices i; files = files i; rings = rings i; total = total_is r.total (fates_of_run s t) total i };
  total = total;
}
