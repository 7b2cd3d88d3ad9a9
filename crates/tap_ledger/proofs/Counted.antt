-- Counting one more frame.
use Rattle.std.proofs.Common.{◌≡◌, ℕ, ◌+◌, List, [], ◌∷◌, ◌++◌, arith, ap, sym, ◌∙◌}
use Rattle.std.specs.Prelude.{Bool}
use Rattle.std.proofs.lemmas.List.{length-append}
use Rattle.std.proofs.lemmas.List.Sums.{sum_by_push}
use Rattle.tap_ledger.specs.declared.counters.Counters.{Counters}
use Rattle.tap_ledger.specs.declared.fate.Fate.{Fate}
use Rattle.tap_ledger.specs.Counters.{Counts, IsCounted, is_waiting, is_read, is_guest, is_host, has_cause, one_if, how_many}

-- one more frame among those of which a test holds
more : (test : Fate → Bool) (fates : List (Fate × ℕ)) (fate : Fate) (len old new : ℕ) → old ≡ how_many test fates → new ≡ old + one_if (test fate) → new ≡ how_many test (fates ++ (fate, len) ∷ [])
more test fates fate len old new was is =
    is ∙ ap (λ n. n + one_if (test fate)) was ∙ sym (sum_by_push (λ (f : Fate × ℕ). one_if (test f.0)) fates (fate, len))

-- the new counts are those of the frames with one more
pub one_more : (fate : Fate) (len : ℕ) (old new : Counters) (fates : List (Fate × ℕ)) → IsCounted fate len old new → Counts old fates → Counts new (fates ++ (fate, len) ∷ [])
one_more fate len old new fates is was = record {
  accepted = omega (arith, is.accepted, was.accepted, length-append fates ((fate, len) ∷ []));
  waiting = more is_waiting fates fate len _ _ was.waiting is.waiting;
  read = more is_read fates fate len _ _ was.read is.read;
  guest = more is_guest fates fate len _ _ was.guest is.guest;
  host = more is_host fates fate len _ _ was.host is.host;
  by_cause = λ k small. more (has_cause k) fates fate len _ _ (was.by_cause k small) (is.by_cause k small);
  bytes = is.bytes ∙ ap (λ n. n + len) was.bytes ∙ sym (sum_by_push (λ (f : Fate × ℕ). f.1) fates (fate, len));
}
