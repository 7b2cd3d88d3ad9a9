-- Each operation that isn't refused leaves a sound table sound: the operations one by one.
use Rattle.std.proofs.Common.{◌≡◌, ◌≢◌, ℕ, ◌+◌, ◌-◌, ◌<◌, ◌≤◌, zero, suc, Bool, true, false, not, ◌&&◌, cond, eqb, List, [], ◌∷◌, ◌++◌, length, get_or, set, map, Option, Some, None, sym, ap, subst, ◌∙◌, inl, inr, refl, arith, length-set, length-append}
use Rattle.std.specs.Prelude.{IfSome, unwrap_or}
use Rattle.std.specs.List.{AllByRecursion}
use Rattle.std.specs.Option.{option_map, option_and_then}
use Rattle.std.proofs.lemmas.Bool.{eq-eqb, ne_eqb, eqb-true, cases_eq, and_parts, false≢true, ltb-false}
use Rattle.std.proofs.lemmas.Option.{none-some, same_Some}
use Rattle.std.proofs.lemmas.List.Elements.{All-from_recursion, recursion_from_All}
use Rattle.tap_queues.specs.declared.queues.Row.{Row}
use Rattle.tap_queues.specs.Rows.{attached, detached, no_row}
use Rattle.tap_flows.specs.Flow.{Flow, FlowList}
use Rattle.tap_flows.specs.FlowList.{AreNotAfter, forgotten, ticked, learnt}
use Rattle.tap_steer.specs.declared.files.Attachment.{Attachment}
use Rattle.tap_steer.specs.declared.files.Attachment.TheVariants.{Unattached, Enabled, Disabled}
use Rattle.tap_steer.specs.declared.files.File.{File}
use Rattle.tap_steer.specs.declared.settings.Settings.{Settings}
use Rattle.tap_steer.specs.Table.{Table, Device, Named, new_file, new_name, first, file_at, name_at, device_at, device_of, home, is_left, is_set, queue_count, with_file, with_device, changed}
use Rattle.tap_ledger.specs.declared.side.Side.{Side}
use Rattle.tap_ledger.specs.declared.side.Side.TheVariants.{Rx, Tx}
use Rattle.tap_steer.specs.declared.operation.Op.{Op}
use Rattle.tap_steer.specs.declared.operation.Op.TheVariants as op
use Rattle.tap_steer.specs.declared.operation.TheConstants.{IFF_ATTACH_QUEUE}
use Rattle.tap_steer.specs.Named.{IsNamed}
use Rattle.tap_ground.specs.Options.{first_that_holds as first_broken}
use Rattle.tap_steer.specs.Rules.{refuse, set_iff_rules, tick_rules}
use Rattle.tap_steer.specs.After.{attached_file, standing, with_row, without_row, with_disabled, without_disabled, row_of, joined, found_left, set_iff, enabled, disabled, left, attach_queue, detach_queue, shut, if_kept, with_settings, with_header_size, with_persistence, with_steering, with_filter, set_at, set_device, learn_at, learn, backed, back, resized, resize, after, is_learning, learning, aged, without_old, tick}
use Rattle.tap_steer.specs.Sound.{times, rows_of, disabled_of, enabled_in, disabled_in, disabled_files, AtOwnEpochs, LeadsWithin, AreSettings, IsGood, IsSound}
use Rattle.tap_steer.proofs.Homes.{IfSome-at, enabled_here, disabled_here, enabled_is_name, disabled_is_name, home_is_name}
use Rattle.tap_steer.proofs.RowLemmas.{share, share_same, times-attached, times-detached, length-detached, All-detached}
use Rattle.tap_steer.proofs.FlowLemmas.{Each, Each-weaker, Each-forgotten, Each-ticked, Each-learnt, IsNotLate, late_each, each_late}
use Rattle.tap_steer.proofs.Lawful.{MayJoin, may_join, free_in, joined_rows, joined_disabled, roomy, AtEnabled, at_enabled, AtDisabled, at_disabled, led_without, all_unbroken, hdr_size_fits}
use Rattle.tap_steer.proofs.SoundLemmas.{IsStep, stepped, sound_step, device_same, device_other, file_same, file_other, disabled_files-set}

-- ---- rows and epochs

away_enabled : (d k : ℕ) → d ≢ k → enabled_in d (Enabled k) ≡ 0
away_enabled d k apart = ap (λ b. cond b 1 0) (ne_eqb k d (λ e. apart (sym e)))

away_disabled : (d k : ℕ) → d ≢ k → disabled_in d (Disabled k) ≡ 0
away_disabled d k apart = ap (λ b. cond b 1 0) (ne_eqb k d (λ e. apart (sym e)))

-- 1 where two files are one
abbrev share_of : ℕ → ℕ → ℕ
share_of file g = cond (eqb file g) 1 0

other_share : (file g : ℕ) → g ≢ file → share_of file g ≡ 0
other_share file g apart = let pick : Bool → ℕ = λ b. cond b 1 0 in ap pick (ne_eqb file g (λ e. apart (sym e)))

own_share : (file : ℕ) → share_of file file ≡ 1
own_share file = let pick : Bool → ℕ = λ b. cond b 1 0 in ap pick (eq-eqb file file refl)

-- the epoch of a row once this file has another
abbrev HasEpoch : Table → ℕ → ℕ → Row → Type 0
HasEpoch t file epoch row = row.epoch ≡ cond (eqb row.file file) epoch (file_at t row.file).epoch

others_keep : (t : Table) (file epoch : ℕ) (rows : List Row) → times file rows ≡ 0 → AtOwnEpochs t rows → AllByRecursion (HasEpoch t file epoch) rows
others_keep t file epoch [] none all = tt
others_keep t file epoch (row ∷ rows) none all = elim (cases_eq row.file file) [
  | inl same ↦ let one : share file row ≡ 1 = share_same file row same in absurd (omega arith)
  | inr apart ↦
      let pick : Bool → ℕ = λ b. cond b epoch (file_at t row.file).epoch in
      let fewer : times file rows ≡ 0 = omega arith in
      (all.0 ∙ sym (ap pick (ne_eqb row.file file apart)), others_keep t file epoch rows fewer all.1)
]

-- the same where the file keeps its epoch
all_keep : (t : Table) (file : ℕ) (rows : List Row) → AtOwnEpochs t rows → AllByRecursion (HasEpoch t file (file_at t file).epoch) rows
all_keep t file [] all = tt
all_keep t file (row ∷ rows) all = elim (cases_eq row.file file) [
  | inl same ↦
      let pick : Bool → ℕ = λ b. cond b (file_at t file).epoch (file_at t row.file).epoch in
      (all.0 ∙ ap (λ n. (file_at t n).epoch) same ∙ sym (ap pick (eq-eqb row.file file same)), all_keep t file rows all.1)
  | inr apart ↦
      let pick : Bool → ℕ = λ b. cond b (file_at t file).epoch (file_at t row.file).epoch in
      (all.0 ∙ sym (ap pick (ne_eqb row.file file apart)), all_keep t file rows all.1)
]

push_each : (P : Row → Type 0) (rows : List Row) (row : Row) → AllByRecursion P rows → P row → AllByRecursion P (rows ++ row ∷ [])
push_each P [] row all p = (p, tt)
push_each P (x ∷ xs) row all p = (all.0, push_each P xs row all.1 p)

epochs_attached : (t : Table) (file epoch : ℕ) (rows : List Row) → times file rows ≡ 0 → AtOwnEpochs t rows → AllByRecursion (HasEpoch t file epoch) (attached rows file epoch)
epochs_attached t file epoch rows none all =
    let pick : Bool → ℕ = λ b. cond b epoch (file_at t file).epoch in
    push_each (HasEpoch t file epoch) rows (record { file = file; epoch = epoch }) (others_keep t file epoch rows none all) (sym (ap pick (eq-eqb file file refl)))

epochs_detached : (t : Table) (file : ℕ) (rows : List Row) (hole : ℕ) → 0 < length rows → AtOwnEpochs t rows → AllByRecursion (HasEpoch t file (file_at t file).epoch) (detached rows hole)
epochs_detached t file rows hole some all =
    recursion_from_All (HasEpoch t file (file_at t file).epoch) (detached rows hole)
    (All-detached (HasEpoch t file (file_at t file).epoch) rows hole some
    (All-from_recursion (HasEpoch t file (file_at t file).epoch) rows (all_keep t file rows all)))

-- ---- devices

-- a good device, but for what holds of one without files
record IsFair (programs clock : ℕ) (d : Device) : Type 0 where
  few : queue_count d ≤ 256
  settings : AreSettings programs d.settings
  led : LeadsWithin (length d.rows) d.flows
  latest : AreNotAfter clock d.flows

good_with_queues : (programs clock : ℕ) (d : Device) → 0 < queue_count d → IsFair programs clock d → IsGood programs clock d
good_with_queues programs clock d some fair = record {
  few = fair.few;
  kept = λ h. absurd (let none : queue_count d ≡ 0 = eqb-true (queue_count d) 0 h in omega arith);
  settings = fair.settings;
  led = fair.led;
  latest = fair.latest;
}

kept_case : (programs clock : ℕ) (d : Device) (left persistent : Bool) → is_left d ≡ left → d.settings.persistent ≡ persistent → IsFair programs clock d → IfSome (cond (left && not persistent) None (Some d)) (IsGood programs clock)
kept_case programs clock d true true l p fair = record { few = fair.few; kept = λ _. p; settings = fair.settings; led = fair.led; latest = fair.latest }
kept_case programs clock d true false l p fair = tt
kept_case programs clock d false persistent l p fair =
    record { few = fair.few; kept = λ h. absurd (false≢true (sym l ∙ h)); settings = fair.settings; led = fair.led; latest = fair.latest }

good_if_kept : (programs clock : ℕ) (d : Device) → IsFair programs clock d → IfSome (if_kept d) (IsGood programs clock)
good_if_kept programs clock d fair = kept_case programs clock d (is_left d) d.settings.persistent refl refl fair

-- a device that goes had no rows and no disabled queues
no_rows : (rows : List Row) → length rows ≡ 0 → [] ≡ rows
no_rows [] h = refl
no_rows (x ∷ xs) h = absurd (omega arith)

kept_rows_case : (d : Device) (b : Bool) → (b ≡ true → queue_count d ≡ 0) → rows_of (cond b None (Some d)) ≡ d.rows
kept_rows_case d true h = let none : length d.rows + d.disabled ≡ 0 = h refl in no_rows d.rows (omega arith)
kept_rows_case d false h = refl

kept_disabled_case : (d : Device) (b : Bool) → (b ≡ true → queue_count d ≡ 0) → disabled_of (cond b None (Some d)) ≡ d.disabled
kept_disabled_case d true h = let none : length d.rows + d.disabled ≡ 0 = h refl in omega arith
kept_disabled_case d false h = refl

left_count : (d : Device) → (is_left d && not d.settings.persistent) ≡ true → queue_count d ≡ 0
left_count d h = eqb-true (queue_count d) 0 (and_parts (is_left d) (not d.settings.persistent) h).0

kept_rows : (d : Device) → rows_of (if_kept d) ≡ d.rows
kept_rows d = kept_rows_case d (is_left d && not d.settings.persistent) (left_count d)

kept_disabled : (d : Device) → disabled_of (if_kept d) ≡ d.disabled
kept_disabled d = kept_disabled_case d (is_left d && not d.settings.persistent) (left_count d)

led_more : (n : ℕ) (flows : FlowList) → LeadsWithin n flows → LeadsWithin (n + 1) flows
led_more n flows h = Each-weaker (λ flow. flow.index < n) (λ flow. flow.index < n + 1) flows (λ flow p. omega arith) h

-- ---- SetIff

joined_settings_case : (programs flags : ℕ) (d : Device) (b : Bool) → AreSettings programs d.settings → AreSettings programs (cond b (found_left flags d) d).settings
joined_settings_case programs flags d true s = record { least = s.least; most = s.most; steering = s.steering; filter = s.filter }
joined_settings_case programs flags d false s = s

joined_flows_case : (flags : ℕ) (d : Device) (b : Bool) → (cond b (found_left flags d) d).flows ≡ d.flows
joined_flows_case flags d true = refl
joined_flows_case flags d false = refl

-- a device that a file joins, as far as it matters
record JoinsFair (programs clock : ℕ) (d : Device) : Type 0 where
  settings : AreSettings programs d.settings
  led : LeadsWithin (length d.rows) d.flows
  latest : AreNotAfter clock d.flows

no_flows_late : (clock : ℕ) → AreNotAfter clock []
no_flows_late clock k d h = absurd (omega arith)

joins_fair : (programs clock flags : ℕ) (o : Option Device) → IfSome o (IsGood programs clock) → JoinsFair programs clock (joined flags o)
joins_fair programs clock flags None good = record {
  settings = record { least = omega arith; most = omega arith; steering = tt; filter = tt };
  led = tt;
  latest = no_flows_late clock;
}
joins_fair programs clock flags (Some d) good =
    let flows = joined_flows_case flags d (is_left d) in
    let rows = joined_rows flags (Some d) in
    record {
      settings = joined_settings_case programs flags d (is_left d) good.settings;
      led = subst (λ (fs : FlowList). LeadsWithin (length (joined flags (Some d)).rows) fs) (sym flows)
          (subst (λ (rs : List Row). LeadsWithin (length rs) d.flows) (sym rows) good.led);
      latest = subst (λ (fs : FlowList). AreNotAfter clock fs) (sym flows) good.latest;
    }

length-attached : (rows : List Row) (file epoch : ℕ) → length (attached rows file epoch) ≡ length rows + 1
length-attached rows file epoch = length-append rows (record { file = file; epoch = epoch } ∷ [])

fair_with_row : (programs clock file epoch : ℕ) (d : Device) → queue_count d < 256 → JoinsFair programs clock d → IsGood programs clock (with_row file epoch d)
fair_with_row programs clock file epoch d room fair =
    let longer = length-attached d.rows file epoch in
    good_with_queues programs clock (with_row file epoch d) (omega arith) (record {
      few = omega arith;
      settings = fair.settings;
      led = subst (λ n. LeadsWithin n d.flows) (sym longer) (led_more (length d.rows) d.flows fair.led);
      latest = fair.latest;
    })

module _ (t : Table) (s : IsSound t) (file k flags : ℕ) (file_in : file < length t.files) (name_in : k < length t.names) (may : MayJoin t file k) where
  joins : Device
  joins = joined flags (device_at t k)

  epoch : ℕ
  epoch = (file_at t file).epoch + 1

  none_yet : times file (joined flags (device_at t k)).rows ≡ 0
  none_yet = ap (times file) (joined_rows flags (device_at t k)) ∙ s.rows k file ∙ (free_in t file may.free k).0

  own_epochs : AtOwnEpochs t (joined flags (device_at t k)).rows
  own_epochs = subst (λ (rows : List Row). AtOwnEpochs t rows) (sym (joined_rows flags (device_at t k))) (s.epochs k)

  pub set_iff_step : IsStep t file k (attached_file (file_at t file) k) (Some (with_row file ((file_at t file).epoch + 1) (joined flags (device_at t k))))
  set_iff_step =
      let d : Device = joined flags (device_at t k) in
      let more = times-attached d.rows file ((file_at t file).epoch + 1) in
      record {
        file_in = file_in;
        name_in = name_in;
        its_rows = more file ∙ omega (arith, none_yet, own_share file) ∙ sym (enabled_here k);
        other_rows = λ g apart. more g ∙ omega (arith, other_share file g apart) ∙ ap (times g) (joined_rows flags (device_at t k));
        its_epochs = epochs_attached t file ((file_at t file).epoch + 1) d.rows none_yet own_epochs;
        was_here = λ e away. free_in t file may.free e;
        is_here = λ e away. (away_enabled e k away, refl);
        disabled = omega (arith, joined_disabled flags (device_at t k), (free_in t file may.free k).1);
        good = fair_with_row (length t.programs) t.clock file ((file_at t file).epoch + 1) d
            (omega (arith, roomy (device_at t k) may.room, ap length (joined_rows flags (device_at t k)), joined_disabled flags (device_at t k)))
            (joins_fair (length t.programs) t.clock flags (device_at t k) (s.good k));
      }

pub sound_set_iff : (t : Table) → IsSound t → (file k flags : ℕ) → file < length t.files → k < length t.names → first_broken (set_iff_rules t file k flags) ≡ None → IsSound (set_iff t file k flags)
unfolding set_iff
sound_set_iff t s file k flags file_in name_in lawful =
    sound_step t s file k (attached_file (file_at t file) k) (Some (with_row file ((file_at t file).epoch + 1) (joined flags (device_at t k))))
    (set_iff_step t s file k flags file_in name_in (may_join t file k flags lawful))

-- ---- enabling and disabling a queue

fair_of : (programs clock : ℕ) (d : Device) → IsGood programs clock d → IsFair programs clock d
fair_of programs clock d good = record { few = good.few; settings = good.settings; led = good.led; latest = good.latest }

at_rows : (t : Table) (k : ℕ) (d : Device) → device_at t k ≡ Some d → rows_of (device_at t k) ≡ d.rows
at_rows t k d e = ap rows_of e

at_epochs : (t : Table) → IsSound t → (k : ℕ) (d : Device) → device_at t k ≡ Some d → AtOwnEpochs t d.rows
at_epochs t s k d e = subst (λ (rows : List Row). AtOwnEpochs t rows) (ap rows_of e) (s.epochs k)

-- where a file's queue is, it is nowhere else
disabled_elsewhere : (t : Table) (file k : ℕ) → (file_at t file).attachment ≡ Disabled k → (d : ℕ) → d ≢ k → (enabled_in d (file_at t file).attachment ≡ 0) × (disabled_in d (file_at t file).attachment ≡ 0)
disabled_elsewhere t file k e d away = (ap (enabled_in d) e, ap (disabled_in d) e ∙ away_disabled d k away)

enabled_elsewhere : (t : Table) (file k : ℕ) → (file_at t file).attachment ≡ Enabled k → (d : ℕ) → d ≢ k → (enabled_in d (file_at t file).attachment ≡ 0) × (disabled_in d (file_at t file).attachment ≡ 0)
enabled_elsewhere t file k e d away = (ap (enabled_in d) e ∙ away_enabled d k away, ap (disabled_in d) e)

module _ (t : Table) (s : IsSound t) (file k : ℕ) (file_in : file < length t.files) (name_in : k < length t.names) (e : (file_at t file).attachment ≡ Disabled k) (d : Device) (a : AtDisabled t file k d) where
  attach_fair : IsGood (length t.programs) t.clock (with_row file ((file_at t file).epoch + 1) (without_disabled d))
  attach_fair =
      let few : length d.rows + d.disabled ≤ 256 = a.good.few in
      let some : 0 < d.disabled = a.some in
      fair_with_row (length t.programs) t.clock file ((file_at t file).epoch + 1) (without_disabled d) (omega arith)
      (record { settings = a.good.settings; led = a.good.led; latest = a.good.latest })

  attach_step : IsStep t file k (attached_file (file_at t file) k) (Some (with_row file ((file_at t file).epoch + 1) (without_disabled d)))
  attach_step =
      let more = times-attached d.rows file ((file_at t file).epoch + 1) in
      let some : 0 < d.disabled = a.some in
      let was : disabled_in k (file_at t file).attachment ≡ 1 = ap (disabled_in k) e ∙ disabled_here k in
      let there : disabled_of (device_at t k) ≡ d.disabled = ap disabled_of a.there in
      record {
        file_in = file_in;
        name_in = name_in;
        its_rows = more file ∙ omega (arith, a.none, own_share file) ∙ sym (enabled_here k);
        other_rows = λ g apart. more g ∙ omega (arith, other_share file g apart) ∙ ap (times g) (sym (at_rows t k d a.there));
        its_epochs = epochs_attached t file ((file_at t file).epoch + 1) d.rows a.none (at_epochs t s k d a.there);
        was_here = disabled_elsewhere t file k e;
        is_here = λ g away. (away_enabled g k away, refl);
        disabled = omega arith;
        good = attach_fair;
      }

module _ (t : Table) (s : IsSound t) (file k : ℕ) (file_in : file < length t.files) (name_in : k < length t.names) (e : (file_at t file).attachment ≡ Enabled k) (d : Device) (a : AtEnabled t file k d) where
  hole_is : row_of d file ≡ a.hole
  hole_is = ap (λ (o : Option ℕ). unwrap_or o 0) a.stands.found

  within : row_of d file < length d.rows
  within = subst (λ n. n < length d.rows) (sym hole_is) a.stands.within

  its : (get_or d.rows (row_of d file) no_row).file ≡ file
  its = ap (λ n. (get_or d.rows n no_row).file) hole_is ∙ a.stands.its

  share_there : (g : ℕ) → share g (get_or d.rows (row_of d file) no_row) ≡ share_of file g
  share_there g = let pick : ℕ → ℕ = λ n. share_of n g in ap pick its

  fewer : (g : ℕ) → times g (without_row file d).rows + share_of file g ≡ times g d.rows
  fewer g = omega (arith, times-detached d.rows (row_of d file) g within, share_there g)

  shorter : length (without_row file d).rows ≡ length d.rows - 1
  shorter = length-detached d.rows (row_of d file)

  once : times file d.rows ≡ 1
  once = ap (times file) (sym (at_rows t k d a.there)) ∙ s.rows k file ∙ ap (enabled_in k) e ∙ enabled_here k

  no_more : times file (without_row file d).rows ≡ 0
  no_more = omega (arith, fewer file, own_share file, once)

  others_stay : (g : ℕ) → g ≢ file → times g (without_row file d).rows ≡ times g (rows_of (device_at t k))
  others_stay g apart = omega (arith, fewer g, other_share file g apart) ∙ ap (times g) (sym (at_rows t k d a.there))

  epochs_stay : AllByRecursion (HasEpoch t file (file_at t file).epoch) (without_row file d).rows
  epochs_stay = epochs_detached t file d.rows (row_of d file) (omega (arith, within)) (at_epochs t s k d a.there)

  fair_without : IsFair (length t.programs) t.clock (without_row file d)
  fair_without =
      let few : length d.rows + d.disabled ≤ 256 = a.good.few in
      let some : 0 < length d.rows = omega (arith, within) in
      record {
        few = omega (arith, shorter);
        settings = a.good.settings;
        led = led_without d file some a.good.led;
        latest = each_late t.clock (forgotten d.flows (length d.rows - 1))
            (Each-forgotten (IsNotLate t.clock) (length d.rows - 1) d.flows (late_each t.clock d.flows a.good.latest));
      }

  not_disabled : disabled_in k (file_at t file).attachment ≡ 0
  not_disabled = ap (disabled_in k) e

  detach_step : IsStep t file k (standing (Disabled k) (file_at t file)) (Some (with_disabled (without_row file d)))
  detach_step =
      let few : length d.rows + d.disabled ≤ 256 = a.good.few in
      let there : disabled_of (device_at t k) ≡ d.disabled = ap disabled_of a.there in
      record {
        file_in = file_in;
        name_in = name_in;
        its_rows = no_more;
        other_rows = others_stay;
        its_epochs = epochs_stay;
        was_here = enabled_elsewhere t file k e;
        is_here = λ g away. (refl, away_disabled g k away);
        disabled = omega (arith, there, not_disabled, disabled_here k);
        good = good_with_queues (length t.programs) t.clock (with_disabled (without_row file d)) (omega arith) (record {
          few = omega (arith, shorter, within);
          settings = fair_without.settings;
          led = fair_without.led;
          latest = fair_without.latest;
        });
      }

  shut_enabled_step : IsStep t file k (standing Unattached (file_at t file)) (if_kept (without_row file d))
  shut_enabled_step =
      let there : disabled_of (device_at t k) ≡ d.disabled = ap disabled_of a.there in
      record {
        file_in = file_in;
        name_in = name_in;
        its_rows = ap (times file) (kept_rows (without_row file d)) ∙ no_more;
        other_rows = λ g apart. ap (times g) (kept_rows (without_row file d)) ∙ others_stay g apart;
        its_epochs = subst (λ (rows : List Row). AllByRecursion (HasEpoch t file (file_at t file).epoch) rows) (sym (kept_rows (without_row file d))) epochs_stay;
        was_here = enabled_elsewhere t file k e;
        is_here = λ g away. (refl, refl);
        disabled = omega (arith, there, not_disabled, kept_disabled (without_row file d));
        good = good_if_kept (length t.programs) t.clock (without_row file d) fair_without;
      }

module _ (t : Table) (s : IsSound t) (file k : ℕ) (file_in : file < length t.files) (name_in : k < length t.names) (e : (file_at t file).attachment ≡ Disabled k) (d : Device) (a : AtDisabled t file k d) where
  shut_disabled_step : IsStep t file k (standing Unattached (file_at t file)) (if_kept (without_disabled d))
  shut_disabled_step =
      let rows = kept_rows (without_disabled d) in
      let few : length d.rows + d.disabled ≤ 256 = a.good.few in
      let some : 0 < d.disabled = a.some in
      let was : disabled_in k (file_at t file).attachment ≡ 1 = ap (disabled_in k) e ∙ disabled_here k in
      let there : disabled_of (device_at t k) ≡ d.disabled = ap disabled_of a.there in
      record {
        file_in = file_in;
        name_in = name_in;
        its_rows = ap (times file) rows ∙ a.none;
        other_rows = λ g apart. ap (times g) rows ∙ ap (times g) (sym (at_rows t k d a.there));
        its_epochs = subst (λ (rs : List Row). AllByRecursion (HasEpoch t file (file_at t file).epoch) rs) (sym rows) (all_keep t file d.rows (at_epochs t s k d a.there));
        was_here = disabled_elsewhere t file k e;
        is_here = λ g away. (refl, refl);
        disabled = omega (arith, kept_disabled (without_disabled d));
        good = good_if_kept (length t.programs) t.clock (without_disabled d)
            (record { few = omega arith; settings = a.good.settings; led = a.good.led; latest = a.good.latest });
      }

-- a device that is there, changed
changed_at : (t : Table) (file k : ℕ) (x : File) (change : Device → Option Device) (d : Device) → device_at t k ≡ Some d → IsSound (stepped t file k x (change d)) → IsSound (changed (with_file t file x) k change)
changed_at t file k x change d e h = subst (λ (o : Option Device). IsSound (stepped t file k x (option_and_then change o))) (sym e) h

-- the device of a file is one of the names
attach_case : (t : Table) → IsSound t → (file : ℕ) (a : Attachment) → (file_at t file).attachment ≡ a → file < length t.files → IsSound (enabled a t file)
attach_case t s file Unattached e file_in = s
attach_case t s file (Enabled k) e file_in = s
attach_case t s file (Disabled k) e file_in =
    let a = at_disabled t s file k e in
    let change : Device → Option Device = λ d. Some (with_row file ((file_at t file).epoch + 1) (without_disabled d)) in
    changed_at t file k (attached_file (file_at t file) k) change a.0 a.1.there
    (sound_step t s file k (attached_file (file_at t file) k) (change a.0) (attach_step t s file k file_in (disabled_is_name t s file k e) e a.0 a.1))

pub sound_attach : (t : Table) → IsSound t → (file : ℕ) → file < length t.files → IsSound (attach_queue t file)
unfolding attach_queue
sound_attach t s file file_in = attach_case t s file (file_at t file).attachment refl file_in

detach_case : (t : Table) → IsSound t → (file : ℕ) (a : Attachment) → (file_at t file).attachment ≡ a → file < length t.files → IsSound (disabled a t file)
detach_case t s file Unattached e file_in = s
detach_case t s file (Disabled k) e file_in = s
detach_case t s file (Enabled k) e file_in =
    let a = at_enabled t s file k e in
    let change : Device → Option Device = λ d. Some (with_disabled (without_row file d)) in
    changed_at t file k (standing (Disabled k) (file_at t file)) change a.0 a.1.there
    (sound_step t s file k (standing (Disabled k) (file_at t file)) (change a.0) (detach_step t s file k file_in (enabled_is_name t s file k e) e a.0 a.1))

pub sound_detach : (t : Table) → IsSound t → (file : ℕ) → file < length t.files → IsSound (detach_queue t file)
unfolding detach_queue
sound_detach t s file file_in = detach_case t s file (file_at t file).attachment refl file_in

shut_case : (t : Table) → IsSound t → (file : ℕ) (a : Attachment) → (file_at t file).attachment ≡ a → file < length t.files → IsSound (left a t file)
shut_case t s file Unattached e file_in = s
shut_case t s file (Disabled k) e file_in =
    let a = at_disabled t s file k e in
    let change : Device → Option Device = λ d. if_kept (without_disabled d) in
    changed_at t file k (standing Unattached (file_at t file)) change a.0 a.1.there
    (sound_step t s file k (standing Unattached (file_at t file)) (change a.0) (shut_disabled_step t s file k file_in (disabled_is_name t s file k e) e a.0 a.1))
shut_case t s file (Enabled k) e file_in =
    let a = at_enabled t s file k e in
    let change : Device → Option Device = λ d. if_kept (without_row file d) in
    changed_at t file k (standing Unattached (file_at t file)) change a.0 a.1.there
    (sound_step t s file k (standing Unattached (file_at t file)) (change a.0) (shut_enabled_step t s file k file_in (enabled_is_name t s file k e) e a.0 a.1))

pub sound_shut : (t : Table) → IsSound t → (file : ℕ) → file < length t.files → IsSound (shut t file)
unfolding shut
sound_shut t s file file_in = shut_case t s file (file_at t file).attachment refl file_in

-- ---- a device alone

module _ (t : Table) (s : IsSound t) (k : ℕ) (name_in : k < length t.names) (o : Option Device) (same_rows : rows_of o ≡ rows_of (device_at t k)) (same_disabled : disabled_of o ≡ disabled_of (device_at t k)) (good : IfSome o (IsGood (length t.programs) t.clock)) where
  each_device : (P : ℕ → Option Device → Type 0) → P k o → ((d : ℕ) → P d (device_at t d)) → (d : ℕ) → P d (device_at (with_device t k o) d)
  each_device P here there d = elim (cases_eq d k) [
    | inl same ↦
        let at : device_at (with_device t k o) k ≡ o = device_same t k o name_in in
        subst (λ n. P n (device_at (with_device t k o) n)) (sym same) (subst (λ q. P k q) (sym at) here)
    | inr away ↦ subst (λ q. P d q) (sym (device_other t k o d away)) (there d)
  ]

  pub sound_device : IsSound (with_device t k o)
  sound_device = record {
    named = length-set t.names k (record (name_at t k) { device = o }) ∙ s.named;
    rows = each_device (λ d q. (g : ℕ) → times g (rows_of q) ≡ enabled_in d (file_at t g).attachment) (λ g. ap (times g) same_rows ∙ s.rows k g) s.rows;
    epochs = each_device (λ d q. AtOwnEpochs t (rows_of q)) (subst (λ (rows : List Row). AtOwnEpochs t rows) (sym same_rows) (s.epochs k)) s.epochs;
    disabled = each_device (λ d q. disabled_of q ≡ disabled_files d t.files) (same_disabled ∙ s.disabled k) s.disabled;
    good = each_device (λ d q. IfSome q (IsGood (length t.programs) t.clock)) good s.good;
  }

-- settings that a change keeps good
abbrev pub KeepsSettings : Table → (Settings → Settings) → Type 0
KeepsSettings t change = (x : Settings) → AreSettings (length t.programs) x → AreSettings (length t.programs) (change x)

-- a change that keeps a device persistent, unless it has files
settings_good : (t : Table) (change : Settings → Settings) (d : Device) → KeepsSettings t change → 0 < queue_count d → IsGood (length t.programs) t.clock d → IsGood (length t.programs) t.clock (with_settings change d)
settings_good t change d keeps some good =
    good_with_queues (length t.programs) t.clock (with_settings change d) some
    (record { few = good.few; settings = keeps d.settings good.settings; led = good.led; latest = good.latest })

-- a device with files has queues
queues_at : (t : Table) → IsSound t → (file k : ℕ) (a : Attachment) → (file_at t file).attachment ≡ a → home a ≡ Some k → (d : Device) × (device_at t k ≡ Some d) × (0 < queue_count d)
queues_at t s file k Unattached e h = absurd (none-some k h)
queues_at t s file k (Enabled x) e h =
    let same : x ≡ k = same_Some x k h in
    let a = at_enabled t s file k (e ∙ ap Enabled same) in
    let within : a.1.hole < length a.0.rows = a.1.stands.within in
    (a.0, a.1.there, omega arith)
queues_at t s file k (Disabled x) e h =
    let same : x ≡ k = same_Some x k h in
    let a = at_disabled t s file k (e ∙ ap Disabled same) in
    let some : 0 < a.0.disabled = a.1.some in
    (a.0, a.1.there, omega arith)

set_case : (t : Table) → IsSound t → (file : ℕ) (change : Settings → Settings) → KeepsSettings t change → (o : Option ℕ) → device_of t file ≡ o → IsSound (set_at o t change)
set_case t s file change keeps None e = s
set_case t s file change keeps (Some k) e =
    let at = queues_at t s file k (file_at t file).attachment refl e in
    let d : Device = at.0 in
    let f : Device → Option Device = λ x. Some (with_settings change x) in
    let good : IsGood (length t.programs) t.clock d = IfSome-at (device_at t k) (IsGood (length t.programs) t.clock) d at.1 (s.good k) in
    subst (λ (o : Option Device). IsSound (with_device t k (option_and_then f o))) (sym at.1)
    (sound_device t s k (home_is_name t s file k e) (Some (with_settings change d)) (sym (ap rows_of at.1)) (sym (ap disabled_of at.1)) (settings_good t change d keeps at.2 good))

pub sound_set : (t : Table) → IsSound t → (file : ℕ) (change : Settings → Settings) → KeepsSettings t change → IsSound (set_device t file change)
unfolding set_device
sound_set t s file change keeps = set_case t s file change keeps (device_of t file) refl

-- ---- learning

learning_case : (t : Table) (limit file hash hole : ℕ) (d : Device) (b : Bool) → hole < length d.rows → row_of d file ≡ hole → IsGood (length t.programs) t.clock d → IsGood (length t.programs) t.clock (cond b (record d { flows = learnt d.flows limit hash (record { index = row_of d file; updated = t.clock }) }) d)
learning_case t limit file hash hole d false inside at good = good
learning_case t limit file hash hole d true inside at good =
    let flow : Flow = record { index = row_of d file; updated = t.clock } in
    let below : row_of d file < length d.rows = subst (λ n. n < length d.rows) (sym at) inside in
    let now_fits : t.clock ≤ t.clock = omega arith in
    record {
      few = good.few;
      kept = good.kept;
      settings = good.settings;
      led = Each-learnt (λ f. f.index < length d.rows) limit hash flow d.flows below good.led;
      latest = each_late t.clock (learnt d.flows limit hash flow)
          (Each-learnt (IsNotLate t.clock) limit hash flow d.flows now_fits (late_each t.clock d.flows good.latest));
    }

learning_rows : (d e : Device) (b : Bool) → e.rows ≡ d.rows → (cond b e d).rows ≡ d.rows
learning_rows d e true h = h
learning_rows d e false h = refl

learning_disabled : (d e : Device) (b : Bool) → e.disabled ≡ d.disabled → (cond b e d).disabled ≡ d.disabled
learning_disabled d e true h = h
learning_disabled d e false h = refl

learn_case : (t : Table) → IsSound t → (file hash : ℕ) (a : Attachment) → (file_at t file).attachment ≡ a → IsSound (learn_at a t file hash)
learn_case t s file hash Unattached e = s
learn_case t s file hash (Disabled k) e = s
learn_case t s file hash (Enabled k) e =
    let a = at_enabled t s file k e in
    let d : Device = a.0 in
    let limit : ℕ = (name_at t k).limit in
    let made : Device = record d { flows = learnt d.flows limit hash (record { index = row_of d file; updated = t.clock }) } in
    let f : Device → Option Device = λ x. Some (learning limit file hash t.clock x) in
    let at : row_of d file ≡ a.1.hole = ap (λ (o : Option ℕ). unwrap_or o 0) a.1.stands.found in
    subst (λ (o : Option Device). IsSound (with_device t k (option_and_then f o))) (sym a.1.there)
    (sound_device t s k (enabled_is_name t s file k e) (Some (learning limit file hash t.clock d))
    (learning_rows d made (is_learning d) refl ∙ sym (ap rows_of a.1.there))
    (learning_disabled d made (is_learning d) refl ∙ sym (ap disabled_of a.1.there))
    (learning_case t limit file hash a.1.hole d (is_learning d) a.1.stands.within at a.1.good))

pub sound_learn : (t : Table) → IsSound t → (file hash : ℕ) → IsSound (learn t file hash)
unfolding learn
sound_learn t s file hash = learn_case t s file hash (file_at t file).attachment refl

-- ---- the clock

pub mapped_length : {A B : Type 0} (f : A → B) (xs : List A) → length (map f xs) ≡ length xs
mapped_length f [] = refl
mapped_length f (x ∷ xs) = omega (arith, mapped_length f xs)

aged_at : (names : List Named) (now k : ℕ) → (get_or (map (aged now) names) k (new_name (0, 0))).device ≡ option_map (without_old (get_or names k (new_name (0, 0))).age now) (get_or names k (new_name (0, 0))).device
aged_at [] now k = refl
aged_at (n ∷ ns) now zero = refl
aged_at (n ∷ ns) now (suc k) = aged_at ns now k

old_rows : (age now : ℕ) (o : Option Device) → rows_of (option_map (without_old age now) o) ≡ rows_of o
old_rows age now None = refl
old_rows age now (Some d) = refl

old_disabled : (age now : ℕ) (o : Option Device) → disabled_of (option_map (without_old age now) o) ≡ disabled_of o
old_disabled age now None = refl
old_disabled age now (Some d) = refl

old_good : (programs clock age now : ℕ) (o : Option Device) → clock ≤ now → IfSome o (IsGood programs clock) → IfSome (option_map (without_old age now) o) (IsGood programs now)
old_good programs clock age now None later good = tt
old_good programs clock age now (Some d) later good =
    let soon : Each (IsNotLate now) d.flows = Each-weaker (IsNotLate clock) (IsNotLate now) d.flows (λ flow p. omega arith) (late_each clock d.flows good.latest) in
    record {
      few = good.few;
      kept = good.kept;
      settings = good.settings;
      led = Each-ticked (λ f. f.index < length d.rows) age now d.flows good.led;
      latest = each_late now (ticked d.flows age now) (Each-ticked (IsNotLate now) age now d.flows soon);
    }

pub sound_tick : (t : Table) → IsSound t → (now : ℕ) → t.clock ≤ now → IsSound (tick t now)
unfolding tick
sound_tick t s now later =
    let at : (d : ℕ) → device_at (tick t now) d ≡ option_map (without_old (name_at t d).age now) (device_at t d) = aged_at t.names now in
    record {
      named = mapped_length (aged now) t.names ∙ s.named;
      rows = λ d g. ap (λ (o : Option Device). times g (rows_of o)) (at d) ∙ ap (times g) (old_rows (name_at t d).age now (device_at t d)) ∙ s.rows d g;
      epochs = λ d. subst (λ (rows : List Row). AtOwnEpochs t rows) (sym (ap rows_of (at d) ∙ old_rows (name_at t d).age now (device_at t d))) (s.epochs d);
      disabled = λ d. ap disabled_of (at d) ∙ old_disabled (name_at t d).age now (device_at t d) ∙ s.disabled d;
      good = λ d. subst (λ (o : Option Device). IfSome o (IsGood (length t.programs) now)) (sym (at d))
          (old_good (length t.programs) t.clock (name_at t d).age now (device_at t d) later (s.good d));
    }

-- ---- a file alone

module _ (t : Table) (s : IsSound t) (file : ℕ) (x : File) (file_in : file < length t.files) (stays : x.attachment ≡ (file_at t file).attachment) (epoch_stays : x.epoch ≡ (file_at t file).epoch) where
  each_stays : (g : ℕ) → (file_at (with_file t file x) g).attachment ≡ (file_at t g).attachment
  each_stays g = elim (cases_eq g file) [
    | inl same ↦
        ap (λ n. (file_at (with_file t file x) n).attachment) same ∙ ap (λ (y : File). y.attachment) (file_same t file x file_in) ∙ stays
        ∙ ap (λ n. (file_at t n).attachment) (sym same)
    | inr apart ↦ ap (λ (y : File). y.attachment) (file_other t file x g apart)
  ]

  each_epoch : (g : ℕ) → (file_at (with_file t file x) g).epoch ≡ (file_at t g).epoch
  each_epoch g = elim (cases_eq g file) [
    | inl same ↦
        ap (λ n. (file_at (with_file t file x) n).epoch) same ∙ ap (λ (y : File). y.epoch) (file_same t file x file_in) ∙ epoch_stays
        ∙ ap (λ n. (file_at t n).epoch) (sym same)
    | inr apart ↦ ap (λ (y : File). y.epoch) (file_other t file x g apart)
  ]

  epochs_same : (rows : List Row) → AtOwnEpochs t rows → AtOwnEpochs (with_file t file x) rows
  epochs_same [] all = tt
  epochs_same (row ∷ rows) all = (all.0 ∙ sym (each_epoch row.file), epochs_same rows all.1)

  count_same : (d : ℕ) → disabled_files d t.files ≡ disabled_files d (set t.files file x)
  count_same d = omega (arith, disabled_files-set d t.files file x file_in, ap (disabled_in d) stays)

  pub sound_file : IsSound (with_file t file x)
  sound_file = record {
    named = s.named;
    rows = λ d g. s.rows d g ∙ sym (ap (enabled_in d) (each_stays g));
    epochs = λ d. epochs_same (rows_of (device_at t d)) (s.epochs d);
    disabled = λ d. s.disabled d ∙ count_same d;
    good = s.good;
  }

back_stays : (side : Side) (vhost : Option ℕ) (f : File) → ((backed side vhost f).attachment ≡ f.attachment) × ((backed side vhost f).epoch ≡ f.epoch)
back_stays Rx vhost f = (refl, refl)
back_stays Tx vhost f = (refl, refl)

pub sound_back : (t : Table) → IsSound t → (file : ℕ) (side : Side) (vhost : Option ℕ) → file < length t.files → IsSound (back t file side vhost)
unfolding back
sound_back t s file side vhost file_in =
    let stay = back_stays side vhost (file_at t file) in
    sound_file t s file (backed side vhost (file_at t file)) file_in stay.0 stay.1

pub sound_resize : (t : Table) → IsSound t → (file capacity : ℕ) → file < length t.files → IsSound (resize t file capacity)
unfolding resize
sound_resize t s file capacity file_in = sound_file t s file (resized capacity (file_at t file)) file_in refl refl

-- ---- the first table

new_files : (capacities : List ℕ) (f : ℕ) → (get_or (map new_file capacities) f (new_file 0)).attachment ≡ Unattached
new_files [] f = refl
new_files (c ∷ cs) zero = refl
new_files (c ∷ cs) (suc f) = new_files cs f

new_names : (flows : List (ℕ × ℕ)) (k : ℕ) → (get_or (map new_name flows) k (new_name (0, 0))).device ≡ None
new_names [] k = refl
new_names (f ∷ fs) zero = refl
new_names (f ∷ fs) (suc k) = new_names fs k

none_disabled : (d : ℕ) (capacities : List ℕ) → 0 ≡ disabled_files d (map new_file capacities)
none_disabled d [] = refl
none_disabled d (c ∷ cs) = omega (arith, none_disabled d cs)

pub sound_first : (programs : List (List ℕ)) (capacities : List ℕ) (flows : List (ℕ × ℕ)) → length flows ≡ 64 → IsSound (first programs capacities flows)
unfolding first
sound_first programs capacities flows full =
    let none : (d : ℕ) → device_at (first programs capacities flows) d ≡ None = new_names flows in
    record {
      named = mapped_length new_name flows ∙ full;
      rows = λ d g. ap (λ (o : Option Device). times g (rows_of o)) (none d) ∙ sym (ap (enabled_in d) (new_files capacities g));
      epochs = λ d. subst (λ (o : Option Device). AtOwnEpochs (first programs capacities flows) (rows_of o)) (sym (none d)) tt;
      disabled = λ d. ap disabled_of (none d) ∙ none_disabled d capacities;
      good = λ d. subst (λ (o : Option Device). IfSome o (IsGood (length programs) 0)) (sym (none d)) tt;
    }

-- ---- all operations

set_queue_sound : (b : Bool) (x y : Table) → IsSound x → IsSound y → IsSound (cond b x y)
set_queue_sound true x y p q = p
set_queue_sound false x y p q = q

pub sound_after : (t : Table) (o : Op) → IsSound t → IsNamed t o → refuse t o ≡ None → IsSound (after t o)
unfolding refuse
sound_after t (op.SetIff file device flags) s named lawful = sound_set_iff t s file device flags named.0 (subst (λ n. device < n) (sym s.named) named.1) lawful
sound_after t (op.SetQueue file flags) s named lawful =
    set_queue_sound (is_set flags IFF_ATTACH_QUEUE) (attach_queue t file) (detach_queue t file) (sound_attach t s file named) (sound_detach t s file named)
sound_after t (op.Shut file) s named lawful = sound_shut t s file named
sound_after t (op.HdrSize file size) s named lawful =
    let fits = hdr_size_fits t file size lawful in
    sound_set t s file (with_header_size size) (λ x a. record { least = fits.0; most = fits.1; steering = a.steering; filter = a.filter })
sound_after t (op.Persist file on) s named lawful =
    sound_set t s file (with_persistence on) (λ x a. record { least = a.least; most = a.most; steering = a.steering; filter = a.filter })
sound_after t (op.Learn file hash) s named lawful = sound_learn t s file hash
sound_after t (op.Tick now) s named lawful =
    let u = all_unbroken (tick_rules t now) lawful in sound_tick t s now (ltb-false now t.clock u.0)
sound_after t (op.Steering file program) s named lawful =
    sound_set t s file (with_steering program) (λ x a. record { least = a.least; most = a.most; steering = named.1; filter = a.filter })
sound_after t (op.Filter file program) s named lawful =
    sound_set t s file (with_filter program) (λ x a. record { least = a.least; most = a.most; steering = a.steering; filter = named.1 })
sound_after t (op.Back file side vhost) s named lawful = sound_back t s file side vhost named
sound_after t (op.Resize file capacity) s named lawful = sound_resize t s file capacity named.0
