-- The report has no float.
use Rattle.std.proofs.Common.{◌≡◌, false, List, [], ◌∷◌, map, refl}
use Rattle.serde_json.specs.Data.{Data}
use Rattle.serde_json.specs.View.{items_of}
use Rattle.serde_json.specs.Written.{has_float, items_have_float}
use Rattle.tap_report.specs.Report.{Report}
use Rattle.tap_report.specs.Json.{device_data, file_data, ring_data, report_data}

no_floats : {X : Type 0} (f : X → Data) → ((x : X) → has_float (f x) ≡ false) → (xs : List X) → items_have_float (items_of (map f xs)) ≡ false
no_floats f none [] = refl
no_floats f none (x ∷ xs) = rw (none x, no_floats f none xs) refl

pub no_float : (r : Report) → has_float (report_data r) ≡ false
no_float r =
    rw (no_floats device_data (λ d. refl) r.devices, no_floats file_data (λ f. refl) r.files, no_floats ring_data (λ r. refl) r.rings) refl
