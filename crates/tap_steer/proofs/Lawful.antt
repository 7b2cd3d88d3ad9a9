-- What holds before an operation that isn't refused.
use Rattle.std.proofs.Common.{◌≡◌, ℕ, ◌+◌, ◌-◌, ◌<◌, ◌≤◌, Bool, true, false, ◌||◌, cond, ltb, List, [], ◌∷◌, length, Option, Some, None, sym, ap, subst, ◌∙◌, refl, arith}
use Rattle.std.specs.Prelude.{IsSome, IsSomeAnd, IfSome, is_some}
use Rattle.std.proofs.lemmas.Bool.{leb-false, ltb-false, true≢false}
use Rattle.std.proofs.lemmas.Option.{none-some}
use Rattle.std.specs.Option.{option_map, option_map_or}
use Rattle.tap_queues.specs.declared.queues.Row.{Row}
use Rattle.tap_queues.specs.Rows.{index_of}
use Rattle.tap_flows.specs.Flow.{FlowList}
use Rattle.tap_flows.specs.FlowList.{forgotten}
use Rattle.tap_ledger.specs.declared.error.TapErr.{TapErr}
use Rattle.tap_steer.specs.declared.files.Attachment.{Attachment}
use Rattle.tap_steer.specs.declared.files.Attachment.TheVariants.{Unattached, Enabled, Disabled}
use Rattle.tap_steer.specs.Table.{Table, Device, file_at, device_at, home, has, is_left, queue_count, is_set}
use Rattle.tap_steer.specs.declared.operation.TheConstants.{IFF_ATTACH_QUEUE, IFF_DETACH_QUEUE}
use Rattle.tap_ground.specs.Options.{first_that_holds as first_broken}
use Rattle.tap_steer.specs.Rules.{Rule, set_iff_rules, set_queue_rules, attach_rules, detach_rules, no_flag_rules, resize_rules, hdr_size_rules, has_device, is_full}
use Rattle.tap_steer.specs.After.{joined, found_left, without_row, without_disabled, row_of}
use Rattle.tap_steer.specs.Sound.{times, rows_of, disabled_of, enabled_in, disabled_in, IsGood, IsSound, LeadsWithin}
use Rattle.tap_steer.specs.Slot.{HasRoom, HasRow, IsEmptied, IsNotAhead}
use Rattle.tap_steer.proofs.Homes.{Is, IfSome-at, has_rows, has_disabled, enabled_here, disabled_here, disabled_share, disabled_is_name}
use Rattle.tap_steer.proofs.RowLemmas.{absent, stands, Stands, length-detached}
use Rattle.tap_steer.proofs.FlowLemmas.{led-forgotten, led_nowhere}

-- a rule that isn't broken, and those behind it
pub unbroken : (b : Bool) (e : TapErr) (rest : Option TapErr) → cond b (Some e) rest ≡ None → (b ≡ false) × (rest ≡ None)
unbroken true e rest h = absurd (none-some e (sym h))
unbroken false e rest h = (refl, h)

or_parts : (x y : Bool) → (x || y) ≡ false → (x ≡ false) × (y ≡ false)
or_parts true y h = absurd (true≢false h)
or_parts false y h = (refl, h)

-- no rule is broken
abbrev pub Unbroken : List Rule → Type 0
Unbroken [] = Unit {0}
Unbroken (rule ∷ rules) = (rule.0 ≡ false) × Unbroken rules

pub all_unbroken : (rules : List Rule) → first_broken rules ≡ None → Unbroken rules
all_unbroken [] h = tt
all_unbroken (rule ∷ rules) h = let a = unbroken rule.0 rule.1 (first_broken rules) h in (a.0, all_unbroken rules a.1)

-- what a file that joins a device finds
pub record MayJoin (t : Table) (file device : ℕ) : Type 0 where
  pub free : has_device t file ≡ false
  pub room : has t device is_full ≡ false
  pub epochs : (file_at t file).epoch < 65535

pub may_join : (t : Table) (file device flags : ℕ) → first_broken (set_iff_rules t file device flags) ≡ None → MayJoin t file device
unfolding set_iff_rules
may_join t file device flags h =
    let u = all_unbroken (set_iff_rules t file device flags) h in
    record { free = u.0; room = u.1.1.1.1.1.1.0; epochs = leb-false 65535 (file_at t file).epoch u.1.1.1.1.1.1.1.1.0 }

pub join_has_epoch : (t : Table) (file device flags : ℕ) → first_broken (set_iff_rules t file device flags) ≡ None → (file_at t file).epoch < 65535
join_has_epoch t file device flags h = (may_join t file device flags h).epochs

-- a file without a device is enabled and disabled nowhere
unattached_in : (device : ℕ) (a : Attachment) → is_some (home a) ≡ false → (enabled_in device a ≡ 0) × (disabled_in device a ≡ 0)
unattached_in device Unattached h = (refl, refl)
unattached_in device (Enabled x) h = absurd (true≢false h)
unattached_in device (Disabled x) h = absurd (true≢false h)

pub free_in : (t : Table) (file : ℕ) → has_device t file ≡ false → (device : ℕ) → (enabled_in device (file_at t file).attachment ≡ 0) × (disabled_in device (file_at t file).attachment ≡ 0)
free_in t file h device = unattached_in device (file_at t file).attachment h

pub joined_rows : (flags : ℕ) (o : Option Device) → (joined flags o).rows ≡ rows_of o
joined_rows flags None = refl
joined_rows flags (Some d) = elim (is_left d) as (λ b. (cond b (found_left flags d) d).rows ≡ d.rows) [ true ↦ refl | false ↦ refl ]

pub joined_disabled : (flags : ℕ) (o : Option Device) → (joined flags o).disabled ≡ disabled_of o
joined_disabled flags None = refl
joined_disabled flags (Some d) = elim (is_left d) as (λ b. (cond b (found_left flags d) d).disabled ≡ d.disabled) [ true ↦ refl | false ↦ refl ]

-- a device that isn't full has room
pub roomy : (o : Option Device) → option_map_or is_full o false ≡ false → length (rows_of o) + disabled_of o < 256
roomy None h = omega arith
roomy (Some d) h = leb-false 256 (queue_count d) h

pub join_has_room : (t : Table) → IsSound t → (file device flags : ℕ) → first_broken (set_iff_rules t file device flags) ≡ None → HasRoom file (joined flags (device_at t device))
join_has_room t s file device flags h =
    let may = may_join t file device flags h in
    let same = joined_rows flags (device_at t device) in
    let none : times file (rows_of (device_at t device)) ≡ 0 = s.rows device file ∙ (free_in t file may.free device).0 in
    record {
      few = omega (arith, ap length same, roomy (device_at t device) may.room);
      absent = absent (joined flags (device_at t device)).rows file (ap (times file) same ∙ none);
    }

-- ---- a file whose queue is enabled

pub record AtEnabled (t : Table) (file device : ℕ) (d : Device) : Type 0 where
  pub there : device_at t device ≡ Some d
  pub good : IsGood (length t.programs) t.clock d
  pub hole : ℕ
  pub stands : Stands d.rows file hole

pub at_enabled : (t : Table) → IsSound t → (file device : ℕ) → (file_at t file).attachment ≡ Enabled device → (d : Device) × AtEnabled t file device d
at_enabled t s file device e =
    let one : times file (rows_of (device_at t device)) ≡ 1 = s.rows device file ∙ ap (enabled_in device) e ∙ enabled_here device in
    let here = has_rows (device_at t device) file (omega arith) in
    let again : times file here.0.rows ≡ 1 = subst (λ (o : Option Device). times file (rows_of o) ≡ 1) here.1 one in
    let at = stands here.0.rows file (omega arith) in (
      here.0,
      record {
        there = here.1;
        good = IfSome-at (device_at t device) (IsGood (length t.programs) t.clock) here.0 here.1 (s.good device);
        hole = at.0;
        stands = at.1;
      },
    )

-- what is so of a device that is there
pub here_so : (o : Option Device) (P : Device → Type 0) (d : Device) → o ≡ Some d → P d → IsSomeAnd o P
here_so o P d e h = subst (λ (x : Option Device). IsSomeAnd x P) (sym e) h

pub here_if : (o : Option Device) (P : Device → Type 0) (d : Device) → o ≡ Some d → P d → IfSome o P
here_if o P d e h = subst (λ (x : Option Device). IfSome x P) (sym e) h

-- the same once it has changed
pub changed_so : (o : Option Device) (f : Device → Device) (P : Device → Type 0) (d : Device) → o ≡ Some d → P (f d) → IsSomeAnd (option_map f o) P
changed_so o f P d e h = subst (λ (x : Option Device). IsSomeAnd (option_map f x) P) (sym e) h

pub changed_if : (o : Option Device) (f : Device → Device) (P : Device → Type 0) (d : Device) → o ≡ Some d → P (f d) → IfSome (option_map f o) P
changed_if o f P d e h = subst (λ (x : Option Device). IfSome (option_map f x) P) (sym e) h

pub has_its_row : (rows : List Row) (file hole : ℕ) → Stands rows file hole → IsSome (index_of rows file)
has_its_row rows file hole h = ap is_some h.found

pub enabled_has_row : (t : Table) → IsSound t → (file device : ℕ) → (file_at t file).attachment ≡ Enabled device → IsSomeAnd (device_at t device) (HasRow file)
enabled_has_row t s file device e =
    let a = at_enabled t s file device e in
    here_so (device_at t device) (HasRow file) a.0 a.1.there (has_its_row a.0.rows file a.1.hole a.1.stands)

pub is_not_ahead : (t : Table) → IsSound t → (file device : ℕ) → (file_at t file).attachment ≡ Enabled device → IfSome (device_at t device) (IsNotAhead t.clock)
is_not_ahead t s file device e =
    let a = at_enabled t s file device e in
    here_if (device_at t device) (IsNotAhead t.clock) a.0 a.1.there a.1.good.latest

-- a device has room to count a disabled queue
abbrev pub IsFewDisabled : Device → Type 0
IsFewDisabled d = d.disabled ≤ 256

pub detached_is_few : (t : Table) → IsSound t → (file device : ℕ) → (file_at t file).attachment ≡ Enabled device → IsSomeAnd (option_map (without_row file) (device_at t device)) IsFewDisabled
detached_is_few t s file device e =
    let a = at_enabled t s file device e in
    let few : length a.0.rows + a.0.disabled ≤ 256 = a.1.good.few in
    changed_so (device_at t device) (without_row file) IsFewDisabled a.0 a.1.there (let d : a.0.disabled ≤ 256 = omega arith in d)

-- a device that loses a row has flows to the others alone
pub led_after : (d : Device) (file : ℕ) → 0 < length d.rows → LeadsWithin (length d.rows) d.flows → LeadsWithin (length d.rows - 1) (forgotten d.flows (length d.rows - 1))
led_after d file some led =
    let n : ℕ = length d.rows - 1 in
    let full : length d.rows ≡ n + 1 = omega arith in
    led-forgotten n d.flows (subst (λ k. LeadsWithin k d.flows) full led)

pub no_rows_led : (rows : List Row) (flows : FlowList) → LeadsWithin (length rows) flows → rows ≡ [] → flows ≡ []
no_rows_led rows flows led none = led_nowhere flows (subst (λ k. LeadsWithin k flows) (ap length none) led)

pub led_without : (d : Device) (file : ℕ) → 0 < length d.rows → LeadsWithin (length d.rows) d.flows → LeadsWithin (length (without_row file d).rows) (without_row file d).flows
led_without d file some led =
    subst (λ k. LeadsWithin k (forgotten d.flows (length d.rows - 1))) (sym (length-detached d.rows (row_of d file))) (led_after d file some led)

pub detached_is_emptied : (t : Table) → IsSound t → (file device : ℕ) → (file_at t file).attachment ≡ Enabled device → IfSome (option_map (without_row file) (device_at t device)) IsEmptied
detached_is_emptied t s file device e =
    let a = at_enabled t s file device e in
    let within : a.1.hole < length a.0.rows = a.1.stands.within in
    let left = without_row file a.0 in
    changed_if (device_at t device) (without_row file) IsEmptied a.0 a.1.there
    (no_rows_led left.rows left.flows (led_without a.0 file (omega arith) a.1.good.led))

-- ---- a file whose queue is disabled

pub record AtDisabled (t : Table) (file device : ℕ) (d : Device) : Type 0 where
  pub there : device_at t device ≡ Some d
  pub good : IsGood (length t.programs) t.clock d
  pub some : 0 < d.disabled
  pub none : times file d.rows ≡ 0

pub at_disabled : (t : Table) → IsSound t → (file device : ℕ) → (file_at t file).attachment ≡ Disabled device → (d : Device) × AtDisabled t file device d
at_disabled t s file device e =
    let one : disabled_in device (file_at t file).attachment ≡ 1 = ap (disabled_in device) e ∙ disabled_here device in
    let some : 0 < disabled_of (device_at t device) = omega (arith, s.disabled device, disabled_share device t.files file) in
    let none : times file (rows_of (device_at t device)) ≡ 0 = s.rows device file ∙ ap (enabled_in device) e in
    let here = has_disabled (device_at t device) some in (
      here.0,
      record {
        there = here.1;
        good = IfSome-at (device_at t device) (IsGood (length t.programs) t.clock) here.0 here.1 (s.good device);
        some = subst (λ (o : Option Device). 0 < disabled_of o) here.1 some;
        none = subst (λ (o : Option Device). times file (rows_of o) ≡ 0) here.1 none;
      },
    )

abbrev pub HasDisabled : Device → Type 0
HasDisabled d = 0 < d.disabled

pub disabled_has_some : (t : Table) → IsSound t → (file device : ℕ) → (file_at t file).attachment ≡ Disabled device → IsSomeAnd (device_at t device) HasDisabled
disabled_has_some t s file device e =
    let a = at_disabled t s file device e in here_so (device_at t device) HasDisabled a.0 a.1.there a.1.some

pub attach_has_room : (t : Table) → IsSound t → (file device : ℕ) → (file_at t file).attachment ≡ Disabled device → IsSomeAnd (option_map without_disabled (device_at t device)) (HasRoom file)
attach_has_room t s file device e =
    let a = at_disabled t s file device e in
    let few : length a.0.rows + a.0.disabled ≤ 256 = a.1.good.few in
    let some : 0 < a.0.disabled = a.1.some in
    changed_so (device_at t device) without_disabled (HasRoom file) a.0 a.1.there
    (record { few = omega arith; absent = absent a.0.rows file a.1.none })

pub enabled_is_emptied : (t : Table) → IsSound t → (file device : ℕ) → (file_at t file).attachment ≡ Disabled device → IfSome (option_map without_disabled (device_at t device)) IsEmptied
enabled_is_emptied t s file device e =
    let a = at_disabled t s file device e in
    changed_if (device_at t device) without_disabled IsEmptied a.0 a.1.there (no_rows_led a.0.rows a.0.flows a.1.good.led)

pub attach_has_epoch : (t : Table) (file : ℕ) → first_broken (attach_rules t file) ≡ None → (file_at t file).epoch < 65535
unfolding attach_rules
attach_has_epoch t file h =
    let u = all_unbroken (attach_rules t file) h in leb-false 65535 (file_at t file).epoch u.1.0

-- ---- the other operations

set_queue_case : (b c : Bool) (x y z : List Rule) → first_broken (cond b x (cond c y z)) ≡ None → b ≡ true → first_broken x ≡ None
set_queue_case true c x y z h e = h
set_queue_case false c x y z h e = absurd (true≢false (sym e))

pub set_queue_lawful : (t : Table) (file flags : ℕ) → first_broken (set_queue_rules t file flags) ≡ None → is_set flags IFF_ATTACH_QUEUE ≡ true → first_broken (attach_rules t file) ≡ None
set_queue_lawful t file flags h e =
    set_queue_case (is_set flags IFF_ATTACH_QUEUE) (is_set flags IFF_DETACH_QUEUE) (attach_rules t file) (detach_rules t file) no_flag_rules h e

pub hdr_size_fits : (t : Table) (file size : ℕ) → first_broken (hdr_size_rules t file size) ≡ None → (10 ≤ size) × (size ≤ 128)
hdr_size_fits t file size h =
    let u = all_unbroken (hdr_size_rules t file size) h in
    let parts = or_parts (ltb size 10) (ltb 128 size) u.1.0 in
    (ltb-false size 10 parts.0, ltb-false 128 size parts.1)

pub hdr_size_most : (t : Table) (file size : ℕ) → first_broken (hdr_size_rules t file size) ≡ None → size ≤ 128
hdr_size_most t file size h = (hdr_size_fits t file size h).1

pub resize_few : (t : Table) (file : ℕ) → first_broken (resize_rules t file) ≡ None → (file_at t file).resizes < 127
resize_few t file h =
    let u = all_unbroken (resize_rules t file) h in leb-false 127 (file_at t file).resizes u.1.0

-- what an operation's call of its function needs
pub ruleset operating = (set_queue_lawful, hdr_size_most, resize_few)

-- what attaching a file needs
pub ruleset joining = (join_has_room, join_has_epoch)

-- what enabling a queue needs
pub ruleset attaching = (attach_has_epoch, disabled_is_name)
