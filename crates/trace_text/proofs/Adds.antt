-- What the calls do that add a line: a part is taken out at the end, gets the line, and is put back.
use Rattle.std.proofs.Common.{◌≡◌, ℕ, suc, ◌-◌, Bool, true, false, if◌then◌else◌, List, [], ◌∷◌, ◌++◌, length, Option, Some, None, refl, sym, ◌∙◌, ap, arith, slice_get, MatchOption}
use Rattle.std.specs.Option.{option_map}
use Rattle.tap_trace.specs.declared.answer.Answer.{Answer}
use Rattle.tap_trace.specs.declared.trace.AnswerLine.{AnswerLine}
use Rattle.tap_trace.specs.declared.trace.FilePart.{FilePart}
use Rattle.tap_trace.specs.declared.trace.GuestPart.{GuestPart}
use Rattle.tap_trace.specs.declared.trace.PhasePart.{PhasePart}
use Rattle.tap_trace.specs.declared.trace.PositionList.{PositionList}
use Rattle.tap_trace.specs.declared.trace.RingPart.{RingPart}
use Rattle.tap_trace.specs.declared.trace.Trace.{Trace}
use Rattle.trace_text.specs.Building.{Opens, Takes, behind_answer, file_back, guest_back, in_file, in_guest, in_phase, in_ring, is_at_files, is_at_phases, last_item, none_yet, phase_back, ring_back, with_last, with_text, with_used}
use Rattle.trace_text.proofs.Lists.{option_map-map, with_last-push}

-- the last item by its place
pub last_get : {A : Type 0} (xs : List A) → slice_get xs (length xs - 1) ≡ last_item xs
last_get [] = refl
last_get (x ∷ []) = refl
last_get (x ∷ y ∷ xs) =
    let there : length (x ∷ y ∷ xs) - 1 ≡ suc (length xs) = omega arith in
    let before : length (y ∷ xs) - 1 ≡ length xs = omega arith in
    ap (slice_get (x ∷ y ∷ xs)) there ∙ sym (ap (slice_get (y ∷ xs)) before) ∙ last_get (y ∷ xs)

-- what `pop` says
abbrev pub Popped : {A : Type 0} → List A → Option A → List A → Type 0
Popped old o new = MatchOption o ((old ≡ []) × (new ≡ [])) (λ last. old ≡ new ++ last ∷ [])

-- the last item was taken out of a list that is mapped
opened : {A T : Type 0} (g : List A → T) (back : A → T) (xs rest : List A) (o : Option A) → ((y : A) → g (rest ++ y ∷ []) ≡ back y) → Popped xs o rest → Opens (λ f. option_map g (with_last f xs)) back o
opened g back xs rest None same m = λ f. ap (λ ys. option_map g (with_last f ys)) m.0
opened g back xs rest (Some x) same m =
    λ f. ap (λ ys. option_map g (with_last f ys)) m ∙ ap (option_map g) (with_last-push f rest x) ∙ option_map-map g (λ y. rest ++ y ∷ []) (f x) ∙ mapped (f x)
  where
    mapped : (p : Option _) → option_map (λ y. g (rest ++ y ∷ [])) p ≡ option_map back p
    mapped None = refl
    mapped (Some y) = ap Some (same y)

-- the same under a test
tested : {A T : Type 0} (b : Bool) (within : (A → Option A) → Option T) (back : A → T) (o : Option A) → b ≡ true → Opens within back o → Opens (λ f. if b then within f else None) back o
tested b within back None e opens = λ f. ap (λ t. if t then within f else None) e ∙ opens f
tested b within back (Some x) e opens = λ f. ap (λ t. if t then within f else None) e ∙ opens f

pub opens_phase : (t : Trace) (o : Option PhasePart) (rest : List PhasePart) → is_at_phases t ≡ true → Popped t.phases o rest → Opens (λ f. in_phase f t) (phase_back (record t { phases = rest })) o
opens_phase t o rest e m =
    let put : List PhasePart → Trace = λ ps. record t { phases = ps } in
    tested (is_at_phases t) (λ f. option_map put (with_last f t.phases)) (phase_back (put rest)) o e (opened put (phase_back (put rest)) t.phases rest o (λ y. refl) m)

pub opens_file : (t : Trace) (o : Option FilePart) (rest : List FilePart) → is_at_files t ≡ true → Popped t.files o rest → Opens (λ f. in_file f t) (file_back (record t { files = rest })) o
opens_file t o rest e m =
    let put : List FilePart → Trace = λ fs. record t { files = fs } in
    tested (is_at_files t) (λ f. option_map put (with_last f t.files)) (file_back (put rest)) o e (opened put (file_back (put rest)) t.files rest o (λ y. refl) m)

pub opens_guest : (t : Trace) (o : Option GuestPart) (rest : List GuestPart) → none_yet t.rings ≡ true → Popped t.guests o rest → Opens (λ f. in_guest f t) (guest_back (record t { guests = rest })) o
opens_guest t o rest e m =
    let put : List GuestPart → Trace = λ gs. record t { guests = gs } in
    tested (none_yet t.rings) (λ f. option_map put (with_last f t.guests)) (guest_back (put rest)) o e (opened put (guest_back (put rest)) t.guests rest o (λ y. refl) m)

pub opens_ring : (t : Trace) (o : Option RingPart) (rest : List RingPart) → Popped t.rings o rest → Opens (λ f. in_ring f t) (ring_back (record t { rings = rest })) o
opens_ring t o rest m =
    let put : List RingPart → Trace = λ rs. record t { rings = rs } in
    opened put (ring_back (put rest)) t.rings rest o (λ y. refl) m

-- a line was put into the part that was taken out, and the part was put back; or the line can't stand there
pub put_back : {A T : Type 0} (back : A → T) (made : Option T) (o : Option A) (q : A) (new : T) → made ≡ option_map back o → Takes o true q → new ≡ back q → Takes made true new
put_back back made o q new is took e = is ∙ ap (option_map back) took ∙ ap Some (sym e)

pub not_put : {A T : Type 0} (back : A → T) (made : Option T) (o : Option A) (q : A) → made ≡ option_map back o → Takes o false q → made ≡ None
not_put back made o q is took = is ∙ ap (option_map back) took

-- ---- behind an answer

pub behind_none : (f : Answer → Option Answer) (p : PhasePart) → p.answers ≡ [] → behind_answer f p ≡ None
behind_none f p e = ap (λ xs. option_map (λ answers. record p { answers = answers }) (with_last (with_text f) xs)) e

behind_made : (f : Answer → Option Answer) (p : PhasePart) (rest : List AnswerLine) (x : AnswerLine) → p.answers ≡ rest ++ x ∷ []
    → behind_answer f p ≡ option_map (λ answers. record p { answers = answers }) (option_map (λ y. rest ++ y ∷ []) (option_map (λ a. record x { answer = a }) (f x.answer)))
behind_made f p rest x e =
    let put : List AnswerLine → PhasePart = λ xs. record p { answers = xs } in
    ap (λ xs. option_map put (with_last (with_text f) xs)) e ∙ ap (option_map put) (with_last-push (with_text f) rest x)

pub behind_refused : (f : Answer → Option Answer) (p : PhasePart) (rest : List AnswerLine) (x : AnswerLine) → p.answers ≡ rest ++ x ∷ [] → f x.answer ≡ None → behind_answer f p ≡ None
behind_refused f p rest x e none =
    behind_made f p rest x e
    ∙ ap (λ o. option_map (λ answers. record p { answers = answers }) (option_map (λ y. rest ++ y ∷ []) (option_map (λ a. record x { answer = a }) o))) none

pub behind_put : (f : Answer → Option Answer) (p : PhasePart) (rest new : List AnswerLine) (x : AnswerLine) (a : Answer) → p.answers ≡ rest ++ x ∷ [] → f x.answer ≡ Some a → new ≡ rest ++ record x { answer = a } ∷ []
    → behind_answer f p ≡ Some (record p { answers = new })
behind_put f p rest new x a e made is =
    behind_made f p rest x e
    ∙ ap (λ o. option_map (λ answers. record p { answers = answers }) (option_map (λ y. rest ++ y ∷ []) (option_map (λ b. record x { answer = b }) o))) made
    ∙ ap (λ xs. Some (record p { answers = xs })) (sym is)

-- ---- in the last list

pub used_none : (u : ℕ × ℕ × ℕ) (r : RingPart) → r.lists ≡ [] → with_used u r ≡ None
used_none u r e = ap (λ ls. option_map (λ lists. record r { lists = lists }) (with_last (λ (l : PositionList). Some (record l { used = l.used ++ u ∷ [] })) ls)) e

pub used_put : (u : ℕ × ℕ × ℕ) (r : RingPart) (rest new : List PositionList) (l k : PositionList) → r.lists ≡ rest ++ l ∷ [] → k ≡ record l { used = l.used ++ u ∷ [] } → new ≡ rest ++ k ∷ []
    → with_used u r ≡ Some (record r { lists = new })
used_put u r rest new l k e is list =
    let more : PositionList → Option PositionList = λ h. Some (record h { used = h.used ++ u ∷ [] }) in
    let put : List PositionList → RingPart = λ ls. record r { lists = ls } in
    ap (λ ls. option_map put (with_last more ls)) e ∙ ap (option_map put) (with_last-push more rest l) ∙ ap (λ h. Some (put (rest ++ h ∷ []))) (sym is) ∙ ap (λ ls. Some (put ls)) (sym list)
