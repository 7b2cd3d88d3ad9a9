-- Calls of a source or a sink, one after another.
use Rattle.std.proofs.Common.{◌≡◌, ℕ, ◌+◌, ◌-◌, ◌<◌, ◌≤◌, ◌⊎◌, List, [], ◌++◌, length, take, drop, take-add, Option, Err, refl, sym, ap, subst, ◌∙◌, arith}
use Rattle.std.proofs.lemmas.List.{length-append}
use Rattle.std.proofs.lemmas.Slice.{between_to_end}
use Rattle.std.proofs.KnownBytes.{Appends-trans, Consumes-nil, Consumes-trans}
use Rattle.std.specs.Prelude.{IsErrOf}
use Rattle.std.specs.Io.KnownBytes.{Appends, Consumes, IsAtEnd}
use Rattle.scen_words.specs.declared.limits.TheConstants.{MAX_BYTES}
use Rattle.tap_ground.specs.Counts.{one_more}
use Rattle.tap_top.specs.Course.{ReadFails, ReadsPiece, ReadsWell}
use Rattle.tap_top.specs.Top.{Source, TakesInput, source_between}

-- ---- a source

pub reads_none : (left : Option (List ℕ)) (faults : ℕ) (bytes : List ℕ) → bytes ≡ [] → ReadsWell (source_between left left faults faults) bytes
reads_none left faults bytes none =
    let nothing : ReadsWell (source_between left left faults faults) [] =
    record { to_limit = record { taken = Consumes-nil left; few = omega arith }; no_fault = refl }
    in
    subst (λ (x : List ℕ). ReadsWell (source_between left left faults faults) x) (sym none) nothing

pub reads_more : (a b c : Option (List ℕ)) (f g h : ℕ) (x y : List ℕ) → ReadsWell (source_between a b f g) x → Consumes b c y → h ≡ g
    → length x + length y ≤ MAX_BYTES + 1 → ReadsWell (source_between a c f h) (x ++ y)
reads_more a b c f g h x y before taken same few = record {
  to_limit = record { taken = Consumes-trans a b c x y before.to_limit.taken taken; few = omega (arith, length-append x y) };
  no_fault = same ∙ before.no_fault;
}

-- one more piece, which fits what is left of the room
pub reads_piece : (a b c : Option (List ℕ)) (f g h : ℕ) (x new : List ℕ) (room n : ℕ) → ReadsWell (source_between a b f g) x
    → ReadsPiece b c x new room n → h ≡ g → length x + room ≤ MAX_BYTES + 1 → ReadsWell (source_between a c f h) new
reads_piece a b c f g h x new room n before p same few =
    let fits : n ≤ room = p.fits in
    let count : n ≡ length p.piece = p.count in
    subst (λ (all : List ℕ). ReadsWell (source_between a c f h) all) (sym p.kept) (reads_more a b c f g h x p.piece before p.taken same (omega arith))

-- a call that failed
pub read_fails : (a b c : Option (List ℕ)) (f g h : ℕ) (W V : Type 0) (x : List ℕ) → ReadsWell (source_between a b f g) x → Consumes b c []
    → h ≡ one_more g → (W → V) → (V → ⊥) → ReadFails (source_between a c f h) W
read_fails a b c f g h W V x before none rose goes_on never = record {
  bytes = x ++ [];
  to_limit = record {
    taken = Consumes-trans a b c x [] before.to_limit.taken none;
    few = let few : length x ≤ MAX_BYTES + 1 = before.to_limit.few in omega (arith, length-append x []);
  };
  fault = rose ∙ ap one_more before.no_fault;
  not_tame = λ w. never (goes_on w);
}

-- all that was to be read
pub reads_input : (source : Source) (bytes : List ℕ) → ReadsWell source bytes → (IsAtEnd source.left_now ⊎ (MAX_BYTES < length bytes)) → TakesInput source bytes
reads_input source bytes well whole = record { to_limit = well.to_limit; whole = whole }

-- ---- a sink

-- the first i bytes of a text, and then the first n of `text[i..]`
pub Appends-front : (a b c : Option (List ℕ)) (text : List ℕ) (i n : ℕ) → Appends a b (take i text)
    → Appends b c (take n (take (length text - i) (drop i text))) → Appends a c (take (i + n) text)
Appends-front a b c text i n p q =
    let rest : take (length text - i) (drop i text) ≡ drop i text = between_to_end text i (length text) (omega arith) in
    let parts : take i text ++ take n (take (length text - i) (drop i text)) ≡ take (i + n) text = rw rest (sym (take-add i n text)) in
    subst (λ (bytes : List ℕ). Appends a c bytes) parts (Appends-trans a b c (take i text) _ p q)

-- ---- an error that is passed on

pub same_error : {A B E : Type 0} (x y : E) → IsErrOf {T = A} (Err x) y → IsErrOf {T = B} (Err x) y
same_error x y h = let same : x ≡ y = cc in ap Err same
