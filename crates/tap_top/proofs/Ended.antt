-- What the ways of a run say of its status.
use Rattle.std.proofs.Common.{◌≡◌, ℕ, ◌<◌, ◌≤◌, ◌⊎◌, inl, inr, ltb, List, ◌++◌, length, Bool, true, false, Option, Some, None, Ok, Err, refl, sym, ap, subst, ◌∙◌, arith}
use Rattle.std.proofs.lemmas.Bool.{lt-ltb}
use Rattle.std.proofs.lemmas.List.{append-nil, length-append}
use Rattle.std.specs.Io.KnownBytes.{Consumes, IsAtEnd}
use Rattle.std.specs.Result.{result_err}
use Rattle.scen_text.specs.declared.fault.ScenFault.{ScenFault}
use Rattle.scen_text.specs.declared.scenario.Scenario.{Scenario}
use Rattle.scen_words.specs.declared.limits.TheConstants.{MAX_BYTES}
use Rattle.scen_text.specs.Refusals.{Said, said_of}
use Rattle.scen_text.specs.Scenario.{IsRefusal, Stands}
use Rattle.tap_top.specs.Course.{Course}
use Rattle.tap_top.specs.Course.Course.{NoMemory, Replied, SourceFailed}
use Rattle.tap_top.specs.Course.IsSent.{Failed, Lost, OutOfMemory, Whole}
use Rattle.tap_top.specs.Top.{Answers, Ended, IsReply, IsWanted, Reads, Sink, Source, Tells, WritesLine, IsGood, reads, reads_input, served, usage_line}
use Rattle.tap_top.specs.Top.IsGood.{Making, Standing}
use Rattle.tap_top.specs.Top.IsReply.{Good, Made, Refused}
use Rattle.tap_top.specs.Top.IsWanted.{Reply, Usage}
use Rattle.tap_top.specs.Top.Reads.{Input, Untouched}
use Rattle.tap_words.specs.declared.request.Request.{Request}
use Rattle.tap_words.specs.declared.request.Request.TheVariants.{Gen}

-- ---- one status is wanted

no_fault : (fault : ScenFault) → None ≡ Some fault → ⊥
no_fault fault e = cc

-- a good text isn't refused
good_or_refused : (input : List ℕ) (s : Scenario) (fault : ScenFault) → Stands input s → IsRefusal input fault → ⊥
good_or_refused input s fault p refusal = no_fault fault (sym (ap result_err p.1) ∙ refusal)

error_is_no_value : (fault : ScenFault) (said : Said) → Err fault ≡ Ok said → ⊥
error_is_no_value fault said e = cc

-- what is longer than the limit isn't good
long_not_good : (input : List ℕ) (s : Scenario) → MAX_BYTES < length input → Stands input s → ⊥
unfolding said_of
long_not_good input s long p =
    let test : ltb MAX_BYTES (length input) ≡ true = lt-ltb MAX_BYTES (length input) long in
    let e = rw test at p.1 in
    error_is_no_value _ p.0 e

-- the generator reads nothing
made_reads : (r : Request) (count : ℕ) → reads r ≡ true → r ≡ Gen count → ⊥
made_reads r count does is = let e : false ≡ true = sym (ap reads is) ∙ does in cc

long_reply : (r : Request) (input : List ℕ) (s : ℕ) (text : List ℕ) → reads r ≡ true → MAX_BYTES < length input → IsReply r input s text → s ≡ 2
long_reply r input s text does long (Good reading scenario stands headline out e) = absurd (long_not_good input scenario long stands)
long_reply r input s text does long (Refused reading fault refusal out e) = e
long_reply r input s text does long (Made count is out e) = absurd (made_reads r count does is)

one_request : (q r : Request) → Some q ≡ Some r → q ≡ r
one_request q r e = cc

one_reply : (q r : Request) (input : List ℕ) (s t : ℕ) (x y : List ℕ) → reads q ≡ true → q ≡ r → IsReply q input s x → IsReply r input t y → s ≡ t
one_reply q r input s t x y does same (Good reading scenario stands h a e) (Good too other good k b d) =
    e ∙ sym d
one_reply q r input s t x y does same (Good reading scenario stands h a e) (Refused too fault refusal b d) = absurd (good_or_refused input scenario fault stands refusal)
one_reply q r input s t x y does same (Good reading scenario stands h a e) (Made count is b d) = absurd (made_reads q count does (same ∙ is))
one_reply q r input s t x y does same (Refused reading fault refusal a e) (Good too scenario stands h b d) = absurd (good_or_refused input scenario fault stands refusal)
one_reply q r input s t x y does same (Refused reading fault refusal a e) (Refused too other refused b d) = e ∙ sym d
one_reply q r input s t x y does same (Refused reading fault refusal a e) (Made count is b d) = absurd (made_reads q count does (same ∙ is))
one_reply q r input s t x y does same (Made count is a e) other = absurd (made_reads q count does is)

not_both : (b : Bool) → b ≡ true → b ≡ false → ⊥
not_both b does doesnt = let e : true ≡ false = sym does ∙ doesnt in cc

-- where nothing is read the status is 0
unread_reply : (r : Request) (input : List ℕ) (s : ℕ) (text : List ℕ) → reads r ≡ false → IsReply r input s text → s ≡ 0
unread_reply r input s text doesnt (Good reading scenario stands h a e) = absurd (not_both (reads r) reading doesnt)
unread_reply r input s text doesnt (Refused reading fault refusal a e) = absurd (not_both (reads r) reading doesnt)
unread_reply r input s text doesnt (Made count is a e) = e

-- the bytes that were read are the input that the source told
whole_input : (left : Option (List ℕ)) (input bytes : List ℕ) → Consumes (Some input) left bytes → IsAtEnd left → input ≡ bytes
whole_input (Some rest) input bytes taken end = taken ∙ ap (λ (r : List ℕ). bytes ++ r) end ∙ append-nil bytes
whole_input None input bytes taken end = absurd taken

longer : (left : Option (List ℕ)) (input bytes : List ℕ) → Consumes (Some input) left bytes → length bytes ≤ length input
longer (Some rest) input bytes taken = omega (arith, ap length taken, length-append bytes rest)
longer None input bytes taken = absurd taken

reply_read : (q r : Request) (left : Option (List ℕ)) (input bytes : List ℕ) (s t : ℕ) (x y : List ℕ) → reads q ≡ true → q ≡ r → Consumes (Some input) left bytes
    → (IsAtEnd left ⊎ (MAX_BYTES < length bytes)) → IsReply q bytes s x → IsReply r input t y → s ≡ t
reply_read q r left input bytes s t x y does same taken (inl end) here there =
    one_reply q r bytes s t x y does same here (subst (λ (i : List ℕ). IsReply r i t y) (whole_input left input bytes taken end) there)
reply_read q r left input bytes s t x y does same taken (inr long) here there =
    long_reply q bytes s x does long here ∙ sym (long_reply r input t y (sym (ap reads same) ∙ does) (omega (arith, longer left input bytes taken)) there)

no_request : (r : Request) → None ≡ Some r → ⊥
no_request r e = cc

nothing_served : (r : Request) (o : Option Request) → o ≡ None → o ≡ Some r → ⊥
nothing_served r o none some = no_request r (sym none ∙ some)

-- what is served is read, or not
reads_served : (words : List (List ℕ)) (r : Request) (b : Bool) → served words ≡ Some r → reads_input (served words) ≡ b → reads r ≡ b
reads_served words r b asked e = sym (ap reads_input asked) ∙ e

-- what is served is read, so that nothing is to be shown of a source that isn't
pub unread_not : (untouched : Type 0) (words : List (List ℕ)) (r : Request) → served words ≡ Some r → reads r ≡ true → reads_input (served words) ≡ false → untouched
unread_not untouched words r asked does doesnt = absurd (not_both (reads r) does (reads_served words r false asked doesnt))

-- the same status is wanted of what was read and of what the source told
one_status : (words : List (List ℕ)) (source : Source) (untouched : Type 0) (input bytes : List ℕ) (s t : ℕ) (x y : List ℕ) → Tells words source input
    → Reads words source untouched bytes → IsWanted words bytes s x → IsWanted words input t y → s ≡ t
one_status words source untouched input bytes s t x y told read (Usage other a e) (Usage another b d) = e ∙ sym d
one_status words source untouched input bytes s t x y told read (Usage other a e) (Reply r asked z) = absurd (nothing_served r (served words) other asked)
one_status words source untouched input bytes s t x y told read (Reply r asked z) (Usage other b d) = absurd (nothing_served r (served words) other asked)
one_status words source untouched input bytes s t x y told (Untouched doesnt same) (Reply r asked z) (Reply q too u) =
    unread_reply r bytes s x (reads_served words r false asked doesnt) z ∙ sym (unread_reply q input t y (reads_served words q false too doesnt) u)
one_status words source untouched input bytes s t x y told (Input does took) (Reply r asked z) (Reply q too u) =
    reply_read r q source.left_now input bytes s t x y (reads_served words r true asked does) (one_request r q (sym asked ∙ too))
    (subst (λ (o : Option (List ℕ)). Consumes o source.left_now bytes) (told does) took.to_limit.taken) took.whole z u

-- ---- what is good is done

done_reply : (r : Request) (left : Option (List ℕ)) (input bytes : List ℕ) (s : ℕ) (x : List ℕ) → Consumes (Some input) left bytes
    → (IsAtEnd left ⊎ (MAX_BYTES < length bytes)) → (scenario : Scenario) → Stands input scenario → IsReply r bytes s x → s ≡ 0
done_reply r left input bytes s x taken whole scenario stands (Good reading other good h a e) = e
done_reply r left input bytes s x taken (inl end) scenario stands (Refused reading fault refusal a e) =
    absurd (good_or_refused bytes scenario fault (subst (λ (i : List ℕ). Stands i scenario) (whole_input left input bytes taken end) stands) refusal)
done_reply r left input bytes s x taken (inr long) scenario stands (Refused reading fault refusal a e) =
    absurd (long_not_good input scenario (omega (arith, longer left input bytes taken)) stands)
done_reply r left input bytes s x taken whole scenario stands (Made count is a e) = e

one_good : (words : List (List ℕ)) (source : Source) (untouched : Type 0) (input bytes : List ℕ) (s : ℕ) (x : List ℕ) → Tells words source input
    → Reads words source untouched bytes → IsWanted words bytes s x → IsGood words input → s ≡ 0
one_good words source untouched input bytes s x told read (Usage other a e) (Standing q too reading scenario stands) = absurd (nothing_served q (served words) other too)
one_good words source untouched input bytes s x told read (Usage other a e) (Making count too) = absurd (nothing_served (Gen count) (served words) other too)
one_good words source untouched input bytes s x told (Untouched doesnt same) (Reply r asked z) (Standing q too reading scenario stands) =
    absurd (not_both (reads q) reading (reads_served words q false too doesnt))
one_good words source untouched input bytes s x told (Input does took) (Reply r asked z) (Standing q too reading scenario stands) =
    done_reply r source.left_now input bytes s x (subst (λ (o : Option (List ℕ)). Consumes o source.left_now bytes) (told does) took.to_limit.taken)
    took.whole scenario stands z
one_good words source untouched input bytes s x told read (Reply r asked z) (Making count too) =
    unread_reply r bytes s x (ap reads (one_request r (Gen count) (sym asked ∙ too))) z

-- ---- what is wanted at a status

low_reply : (r : Request) (input : List ℕ) (s : ℕ) (text : List ℕ) → IsReply r input s text → s ≤ 2
low_reply r input s text (Good reading scenario stands h out e) = omega arith
low_reply r input s text (Refused reading fault refusal out e) = omega arith
low_reply r input s text (Made count is out e) = omega arith

low : (words : List (List ℕ)) (input : List ℕ) (s : ℕ) (text : List ℕ) → IsWanted words input s text → s ≤ 2
low words input s text (Usage other a e) = omega arith
low words input s text (Reply r asked z) = low_reply r input s text z

not_one : (r : Request) (input : List ℕ) (s : ℕ) (text : List ℕ) → IsReply r input s text → s ≡ 1 → ⊥
not_one r input s text (Good reading scenario stands h out e) one = omega arith
not_one r input s text (Refused reading fault refusal out e) one = omega arith
not_one r input s text (Made count is out e) one = omega arith

-- at status 1 nothing is served, and the text is the usage line
at_one : (words : List (List ℕ)) (input : List ℕ) (s : ℕ) (text : List ℕ) → IsWanted words input s text → s ≡ 1 → (served words ≡ None) × (text ≡ usage_line)
at_one words input s text (Usage other a e) one = (other, a)
at_one words input s text (Reply r asked z) one = absurd (not_one r input s text z one)

-- where nothing is served the status is 1
others : (words : List (List ℕ)) (input : List ℕ) (s : ℕ) (text : List ℕ) → IsWanted words input s text → served words ≡ None → s ≡ 1
others words input s text (Usage other a e) none = e
others words input s text (Reply r asked z) none = absurd (nothing_served r (served words) none asked)

-- where nothing is read, the source is untouched
untouched_source : (words : List (List ℕ)) (source : Source) (untouched : Type 0) (input : List ℕ) → Reads words source untouched input → reads_input (served words) ≡ false → untouched
untouched_source words source untouched input (Untouched other same) doesnt = same
untouched_source words source untouched input (Input does took) doesnt = absurd (not_both (reads_input (served words)) does doesnt)

-- ---- the call

-- an answer at the status that is wanted
answer : (words : List (List ℕ)) (source : Source) (untouched : Type 0) (input text : List ℕ) (wanted status : ℕ) (written : List ℕ → Type 0)
    → Reads words source untouched input → IsWanted words input wanted text → wanted ≡ status → written text → Answers words source untouched status written
answer words source untouched input text wanted status written read want same write = record {
  input = input;
  text = text;
  read = read;
  wanted = subst (λ (k : ℕ). IsWanted words input k text) same want;
  write = write;
}

usage_of : (words : List (List ℕ)) (source : Source) (untouched : Type 0) (input text : List ℕ) (wanted : ℕ) (line : List ℕ → Type 0)
    → Reads words source untouched input → IsWanted words input wanted text → wanted ≡ 1 → line text → (served words ≡ None) × untouched × line usage_line
usage_of words source untouched input text wanted line read want one written =
    let other = at_one words input wanted text want one in
    (other.0, untouched_source words source untouched input read (ap reads_input other.0), subst line other.1 written)

pub ended : (words : List (List ℕ)) (source : Source) (sink : Sink) (untouched silent tame reliable : Type 0) (status : ℕ)
    → Course words source sink untouched silent tame reliable status → Ended words source sink untouched silent tame reliable status
ended words source sink untouched silent tame reliable status (SourceFailed r asked reading fails same still three) = record {
  done = λ e. absurd (omega arith);
  usage = λ e. absurd (omega arith);
  usage_only = λ other. absurd (nothing_served r (served words) other asked);
  refused = λ e. absurd (omega arith);
  refused_only = λ input text told want. inr (inl three);
  source_failed = λ e. (fails.fault, same);
  no_read_failed = λ not_three. absurd (not_three three);
  ends_well = λ well e. fails.not_tame well;
  sink_failed = λ e. absurd (omega arith);
  no_write_failed = λ r. (λ four. omega arith, still);
  out_of_memory = λ e. absurd (omega arith);
  statuses = omega arith;
  unread = λ doesnt. absurd (not_both (reads r) reading (reads_served words r false asked doesnt));
  taken = (fails.bytes, fails.to_limit);
  complete = λ input told good calm quiet. absurd (calm fails.fault);
}
ended words source sink untouched silent tame reliable status (NoMemory bytes well unread same still five) = record {
  done = λ e. absurd (omega arith);
  usage = λ e. absurd (omega arith);
  usage_only = λ other. inr five;
  refused = λ e. absurd (omega arith);
  refused_only = λ input text told want. inr (inr five);
  source_failed = λ e. absurd (omega arith);
  no_read_failed = λ not_three. well.no_fault;
  ends_well = λ t e. omega arith;
  sink_failed = λ e. absurd (omega arith);
  no_write_failed = λ r. (λ four. omega arith, still);
  out_of_memory = λ e. inl same;
  statuses = omega arith;
  unread = λ doesnt. (unread doesnt, λ e. omega arith);
  taken = (bytes, well.to_limit);
  complete = λ input told good calm quiet. inr five;
}
ended words source sink untouched silent tame reliable status (Replied input text wanted read well want (Whole written is)) =
    let few : wanted ≤ 2 = low words input wanted text want in
    record {
      done = λ e. answer words source untouched input text wanted 0 _ read want (sym is ∙ e) written;
      usage = λ e. usage_of words source untouched input text wanted (WritesLine sink) read want (sym is ∙ e) (inl written);
      usage_only = λ other. inl (is ∙ others words input wanted text want other);
      refused = λ e. answer words source untouched input text wanted 2 _ read want (sym is ∙ e) (inl written);
      refused_only = λ i t told other. inl (is ∙ one_status words source untouched i input wanted 2 text t told read want other);
      source_failed = λ e. absurd (omega arith);
      no_read_failed = λ e. well.1.no_fault;
      ends_well = λ t e. omega arith;
      sink_failed = λ e. absurd (omega arith);
      no_write_failed = λ r. (λ four. omega arith, written.no_fault);
      out_of_memory = λ e. absurd (omega arith);
      statuses = omega arith;
      unread = λ doesnt. (untouched_source words source untouched input read doesnt, λ e. omega arith);
      taken = (well.0, well.1.to_limit);
      complete = λ i told good calm quiet. inl (is ∙ one_good words source untouched i input wanted text told read want good);
    }
ended words source sink untouched silent tame reliable status (Replied input text wanted read well want (Lost breaks bad line is)) =
    let few : wanted ≤ 2 = low words input wanted text want in
    record {
      done = λ e. absurd (omega arith);
      usage = λ e. usage_of words source untouched input text wanted (WritesLine sink) read want (sym is ∙ e) (inr breaks);
      usage_only = λ other. inl (is ∙ others words input wanted text want other);
      refused = λ e. answer words source untouched input text wanted 2 _ read want (sym is ∙ e) (inr breaks);
      refused_only = λ i t told other. inl (is ∙ one_status words source untouched i input wanted 2 text t told read want other);
      source_failed = λ e. absurd (omega arith);
      no_read_failed = λ e. well.1.no_fault;
      ends_well = λ t e. omega arith;
      sink_failed = λ e. absurd (omega arith);
      no_write_failed = λ r. absurd (bad r);
      out_of_memory = λ e. absurd (omega arith);
      statuses = omega arith;
      unread = λ doesnt. (untouched_source words source untouched input read doesnt, λ e. omega arith);
      taken = (well.0, well.1.to_limit);
      complete = λ i told good calm quiet. absurd (quiet breaks.fault);
    }
ended words source sink untouched silent tame reliable status (Replied input text wanted read well want (Failed breaks bad none is)) =
    record {
      done = λ e. absurd (omega arith);
      usage = λ e. absurd (omega arith);
      usage_only = λ other. let one = others words input wanted text want other in absurd (omega arith);
      refused = λ e. absurd (omega arith);
      refused_only = λ i t told other. let two = one_status words source untouched i input wanted 2 text t told read want other in absurd (omega arith);
      source_failed = λ e. absurd (omega arith);
      no_read_failed = λ e. well.1.no_fault;
      ends_well = λ t e. omega arith;
      sink_failed = λ e. answer words source untouched input text wanted 0 _ read want none breaks;
      no_write_failed = λ r. absurd (bad r);
      out_of_memory = λ e. absurd (omega arith);
      statuses = omega arith;
      unread = λ doesnt. (untouched_source words source untouched input read doesnt, λ e. omega arith);
      taken = (well.0, well.1.to_limit);
      complete = λ i told good calm quiet. absurd (quiet breaks.fault);
    }
ended words source sink untouched silent tame reliable status (Replied input text wanted read well want (OutOfMemory stops is)) =
    record {
      done = λ e. absurd (omega arith);
      usage = λ e. absurd (omega arith);
      usage_only = λ other. inr is;
      refused = λ e. absurd (omega arith);
      refused_only = λ i t told other. inr (inr is);
      source_failed = λ e. absurd (omega arith);
      no_read_failed = λ e. well.1.no_fault;
      ends_well = λ t e. omega arith;
      sink_failed = λ e. absurd (omega arith);
      no_write_failed = λ r. (λ four. omega arith, stops.no_fault);
      out_of_memory = λ e. inr (wanted, answer words source untouched input text wanted wanted _ read want refl stops);
      statuses = omega arith;
      unread = λ doesnt. (untouched_source words source untouched input read doesnt, λ e. omega arith);
      taken = (well.0, well.1.to_limit);
      complete = λ i told good calm quiet. inr is;
    }
