-- What is built can be closed to a whole trace.
use Rattle.std.proofs.Common.{lit<, ◌≡◌, Bool, true, false, not, ◌==◌, if◌then◌else◌, List, [], ◌∷◌, ◌++◌, Some, refl, sym, ◌∙◌, ap, append_assoc, ◌⊎◌, inl, inr}
use Rattle.std.specs.Option.{option_map}
use Rattle.std.proofs.lemmas.Bool.{cases_Bool}
use Rattle.std.proofs.lemmas.List.{append-nil}
use Rattle.tap_trace.specs.declared.trace.PositionList.{PositionList}
use Rattle.tap_trace.specs.declared.trace.RingPart.{RingPart}
use Rattle.tap_trace.specs.declared.trace.Trace.{Trace}
use Rattle.trace_words.specs.declared.said.Said.{Said}
use Rattle.trace_words.specs.declared.said.Said.TheVariants as said
use Rattle.trace_text.specs.Building.{and_item, are_listed, is_listed, last_item, none_yet, passes, with_base, with_last, with_line}
use Rattle.trace_text.specs.Ordered.{FitTrace}
use Rattle.trace_text.specs.declared.builder.Stage.{Stage}
use Rattle.trace_text.specs.declared.builder.Stage.TheVariants.{Start, Inside, Ended}
use Rattle.trace_text.proofs.Heard.{Sound, empty, heard}
use Rattle.trace_text.proofs.Kept.{FitSoFar}
use Rattle.trace_text.proofs.Lists.{last_item-push, none_yet-push, with_last-push}
use Rattle.trace_text.proofs.Rings.{all_rings, line_grows}
use Rattle.trace_text.proofs.Sentences.{body, sentences}

-- a whole trace whose lines begin with what was heard
pub record Closed (stage : Stage) (t : Trace) : Type 0 where
  pub trace : Trace
  pub fits : FitTrace trace
  pub more : List Said
  pub whole : sentences trace ≡ heard stage t ++ more

-- where the last ring has a list, all fits
pub whole_fits : (t : Trace) → FitSoFar t → are_listed t ≡ true → FitTrace t
whole_fits t fit listed = record {
  phases = fit.phases;
  files = fit.files;
  files_rise = fit.files_rise;
  guests = fit.guests;
  guests_rise = fit.guests_rise;
  rings = all_rings t.rings fit.rings listed;
  rings_rise = fit.rings_rise;
}

-- where it has none, there is a last ring, and `base 0` can stand behind it
last_open : (rs : List RingPart) → passes is_listed (last_item rs) ≡ false → (front : List RingPart) × (r : RingPart) × (rs ≡ front ++ r ∷ [])
last_open [] e = absurd cc
last_open (r ∷ []) e = ([], r, refl)
last_open (r ∷ q ∷ rs) e = let rest = last_open (q ∷ rs) e in (r ∷ rest.0, rest.1, ap (λ qs. r ∷ qs) rest.2)

zero_fits : (b : Bool) → (if b then 0 == 0 else true) ≡ true
zero_fits true = refl
zero_fits false = refl

listed_then : (t : Trace) → are_listed t ≡ false → (u : Trace) × (with_line (said.Base 0) t ≡ Some u) × (are_listed u ≡ true)
listed_then t e =
    let last = last_open t.rings e in
    let front : List RingPart = last.0 in
    let r : RingPart = last.1 in
    let put : List PositionList → RingPart = λ ls. record r { lists = ls } in
    let l : PositionList = record { base = 0; used = [] } in
    let more : List PositionList = r.lists ++ l ∷ [] in
    let made : with_base 0 r ≡ Some (put more) = ap (λ b. option_map put (and_item b r.lists l)) (zero_fits (none_yet r.lists)) in
    let rings : with_last (with_base 0) t.rings ≡ Some (front ++ put more ∷ []) =
    ap (with_last (with_base 0)) last.2 ∙ with_last-push (with_base 0) front r ∙ ap (option_map (λ q. front ++ q ∷ [])) made in (
      record t { rings = front ++ put more ∷ [] },
      ap (option_map (λ rs. record t { rings = rs })) rings,
      ap (passes is_listed) (last_item-push front (put more)) ∙ ap not (none_yet-push r.lists l),
    )

closed_by : (t : Trace) → FitSoFar t → (are_listed t ≡ true) ⊎ (are_listed t ≡ false) → Closed Inside t
closed_by t fit (inl listed) = record { trace = t; fits = whole_fits t fit listed; more = said.End ∷ []; whole = refl }
closed_by t fit (inr bare) =
    let next = listed_then t bare in
    let grows = line_grows (said.Base 0) t next.0 (lit< tt) refl fit next.1 in
    record {
      trace = next.0;
      fits = whole_fits next.0 grows.0 next.2;
      more = said.Base 0 ∷ said.End ∷ [];
      whole = ap (λ ss. said.Begins ∷ (ss ++ said.End ∷ [])) grows.1 ∙ ap (λ ss. said.Begins ∷ ss) (append_assoc (body t) (said.Base 0 ∷ []) (said.End ∷ []));
    }

pub closing : (stage : Stage) (t : Trace) → Sound stage t → Closed stage t
closing Start t sound =
    record { trace = empty; fits = record { phases = tt; files = tt; files_rise = refl; guests = tt; guests_rise = refl; rings = tt; rings_rise = refl }; more = sentences empty; whole = refl }
closing Inside t sound = closed_by t sound (cases_Bool (are_listed t))
closing Ended t sound = record { trace = t; fits = whole_fits t sound.0 sound.1; more = []; whole = sym (append-nil (sentences t)) }
