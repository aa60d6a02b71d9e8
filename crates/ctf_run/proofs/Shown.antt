-- Streams of traces by the names that are shown.
use Rattle.std.proofs.Common.{◌≡◌, ℕ, suc, ◌+◌, Bool, true, false, Bor, Vec, string_bytes, List, [], ◌∷◌, ◌++◌, map, length, slice_get, Some, String, refl, sym, ap, ◌∙◌, append_assoc, arith}
use Rattle.std.proofs.lemmas.List.{append-nil, map-append, length-append, length-map}
use Rattle.std.specs.Prelude.{unwrap_or}
use Rattle.std.specs.declared.alloc.Global.{Global}
use Rattle.ctf_class.specs.declared.trace.TraceClass.{TraceClass}
use Rattle.ctf_session.specs.Inputs.{Given, Input}
use Rattle.ctf_session.specs.Inputs as sessions
use Rattle.ctf_session.specs.declared.input.Streams.{Streams}
use Rattle.ctf_session.proofs.Opened.{inputs_at}
use Rattle.ctf_run.specs.declared.trace.Trace as declared
use Rattle.ctf_run.specs.Traces.{Stream, Trace, stream_of, trace_of, traces_of, shown_as, input_of, inputs_from}

-- a stream by its own name
abbrev by_name : ℕ → TraceClass → Stream → Input
by_name number class s = record { trace = number; class = class; name = s.name; given = s.given }

shown_name : (several : Bool) (number : ℕ) (trace : List ℕ) (class : TraceClass) (streams : List Stream) → map (by_name number class) (map (shown_as several trace) streams) ≡ map (input_of several number trace class) streams
shown_name several number trace class [] = refl
shown_name several number trace class (s ∷ ss) = ap (λ more. input_of several number trace class s ∷ more) (shown_name several number trace class ss)

module _ {S : Type 0} (given : S → Given) where
  -- one trace: as they are
  pub same_names : (trace : List ℕ) (streams : List (String Global × S)) → map (stream_of given) streams ≡ map (shown_as false trace) (map (stream_of given) streams)
  same_names trace [] = refl
  same_names trace (s ∷ ss) = ap (λ more. stream_of given s ∷ more) (same_names trace ss)

  own_name : (number : ℕ) (class : TraceClass) (streams : List (String Global × S)) → map (sessions.input_of given number class) streams ≡ map (by_name number class) (map (stream_of given) streams)
  own_name number class [] = refl
  own_name number class (s ∷ ss) = ap (λ more. sessions.input_of given number class s ∷ more) (own_name number class ss)

  -- the streams of a trace
  pub same_inputs : (several : Bool) (number : ℕ) (trace : List ℕ) (class : TraceClass) (new old : List (String Global × S)) → map (stream_of given) new ≡ map (shown_as several trace) (map (stream_of given) old)
      → map (sessions.input_of given number class) new ≡ map (input_of several number trace class) (map (stream_of given) old)
  same_inputs several number trace class new old shown =
      own_name number class new ∙ ap (λ ss. map (by_name number class) ss) shown ∙ shown_name several number trace class (map (stream_of given) old)

some_is : (a b : TraceClass) → Some a ≡ Some b → a ≡ b
some_is a b h = ap (λ o. unwrap_or o a) h

-- one trace more
pub inputs_more : (several : Bool) (number : ℕ) (ts : List Trace) (t : Trace) (classes : List TraceClass) (class : TraceClass) → slice_get classes (length ts) ≡ Some class
    → inputs_from several number (ts ++ t ∷ []) classes ≡ inputs_from several number ts classes ++ map (input_of several (number + length ts) t.name class) t.streams
inputs_more several number [] t [] class at = absurd (grind (arith, at))
inputs_more several number [] t (c ∷ cs) class at =
    append-nil (map (input_of several number t.name c) t.streams)
    ∙ ap (λ x. map (input_of several number t.name x) t.streams) (some_is c class at)
    ∙ ap (λ n. map (input_of several n t.name class) t.streams) (omega arith)
inputs_more several number (u ∷ us) t [] class at = absurd (grind (arith, at))
inputs_more several number (u ∷ us) t (c ∷ cs) class at =
    ap (λ rest. map (input_of several number u.name c) u.streams ++ rest)
    (inputs_more several (suc number) us t cs class at ∙ ap (λ n. inputs_from several (suc number) us cs ++ map (input_of several n t.name class) t.streams) (omega arith))
    ∙ sym (append_assoc (map (input_of several number u.name c) u.streams) _ _)

module _ {S : Type 0} (given : S → Given) where
  -- one stream more
  pub joined_more : (trace : List ℕ) (new old : List (String Global × S)) (n o : String Global × S) → map (stream_of given) new ≡ map (shown_as true trace) (map (stream_of given) old)
      → stream_of given n ≡ shown_as true trace (stream_of given o) → map (stream_of given) (new ++ n ∷ []) ≡ map (shown_as true trace) (map (stream_of given) (old ++ o ∷ []))
  joined_more trace new old n o same here =
      map-append (stream_of given) new (n ∷ [])
      ∙ ap (λ ss. ss ++ stream_of given n ∷ []) same
      ∙ ap (λ s. map (shown_as true trace) (map (stream_of given) old) ++ s ∷ []) here
      ∙ sym (map-append (shown_as true trace) (map (stream_of given) old) (stream_of given o ∷ []))
      ∙ sym (ap (map (shown_as true trace)) (map-append (stream_of given) old (o ∷ [])))

  -- one trace more
  pub trace_more : (several : Bool) (number : ℕ) (named : List (Streams S)) (ts : List (declared.Trace S)) (t : declared.Trace S) (classes : List TraceClass) (class : Bor TraceClass) (streams : Vec (String Global × S) Global) (name : List ℕ)
      → name ≡ string_bytes t.name → number ≡ length ts → length named ≡ length ts → slice_get classes number ≡ Some class.now → sessions.inputs_from given 0 named ≡ inputs_from several 0 (traces_of given ts) classes
      → map (stream_of given) streams.items ≡ map (shown_as several name) (map (stream_of given) t.streams.items)
      → sessions.inputs_from given 0 (named ++ record { class = class; streams = streams } ∷ []) ≡ inputs_from several 0 (traces_of given (ts ++ t ∷ [])) classes
  trace_more several number named ts t classes class streams name called is counted at same shown =
      let place : number ≡ 0 + length (traces_of given ts) = (let mapped = length-map ts (trace_of given) in omega (arith, is)) in
      let bytes : map (stream_of given) streams.items ≡ map (shown_as several (string_bytes t.name)) (map (stream_of given) t.streams.items) = shown ∙ ap (λ (n : List ℕ). map (shown_as several n) (map (stream_of given) t.streams.items)) called in
      inputs_at given named (record { class = class; streams = streams }) number (is ∙ sym counted)
      ∙ ap (λ is. is ++ map (sessions.input_of given number class.now) streams.items) same
      ∙ ap (λ is. inputs_from several 0 (traces_of given ts) classes ++ is) (same_inputs given several number (string_bytes t.name) class.now streams.items t.streams.items bytes)
      ∙ ap (λ n. inputs_from several 0 (traces_of given ts) classes ++ map (input_of several n (string_bytes t.name) class.now) (map (stream_of given) t.streams.items)) place
      ∙ sym (inputs_more several 0 (traces_of given ts) (trace_of given t) classes class.now (ap (slice_get classes) (length-map ts (trace_of given) ∙ sym is) ∙ at))
      ∙ ap (λ us. inputs_from several 0 us classes) (sym (map-append (trace_of given) ts (t ∷ [])))

pub one_longer : {A B : Type 0} (xs : List A) (x : A) (ys : List B) (y : B) → length xs ≡ length ys → length (xs ++ x ∷ []) ≡ length (ys ++ y ∷ [])
one_longer xs x ys y same = let one = length-append xs (x ∷ []) in let other = length-append ys (y ∷ []) in omega (arith, same)
