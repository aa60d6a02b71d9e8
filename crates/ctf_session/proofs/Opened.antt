-- Readers that were just opened, and what their merge gives.
use Rattle.std.proofs.Common.{◌≡◌, ℕ, suc, ◌+◌, List, [], ◌∷◌, ◌++◌, map, length, None, String, refl, sym, ap, ◌∙◌, subst, append_assoc, arith}
use Rattle.std.proofs.lemmas.List.{append-nil, map-append}
use Rattle.std.specs.declared.alloc.Global.{Global}
use Rattle.ctf_class.specs.declared.trace.TraceClass.{TraceClass}
use Rattle.ctf_merge.specs.Merges.{EachRises, EachComes, EachTells, EachOnLine, EachAllTaken, names_of, given_of, writes_of}
use Rattle.std.proofs.lemmas.List.Elements.{All-cons, All-nil}
use Rattle.ctf_stream.specs.Asked.{texts_of}
use Rattle.ctf_packet.specs.Classes.{Classes, trace_form}
use Rattle.ctf_packet.specs.Items.{Run}
use Rattle.ctf_stream.specs.Reader.{Reader, coming}
use Rattle.stream_laws.specs.Times.{Rises}
use Rattle.stream_laws.proofs.Rising.{run_rises}
use Rattle.ctf_session.specs.Inputs.{Given, Input, input_of, inputs_from, run_in, AllTell}
use Rattle.ctf_session.specs.Opening.{AreAsked, Opens, EachOpens}
use Rattle.ctf_session.specs.Passing.{EachMeans}
use Rattle.ctf_session.specs.declared.input.Streams.{Streams}
use Rattle.ctf_options.specs.declared.options.Options.{Options}

module _ (asked : Options) where
  pub runs_of : (inputs : List Input) (readers : List Reader) → EachOpens asked inputs readers → AllTell inputs → map coming readers ≡ map (run_in asked.shift) inputs
  runs_of [] [] each tells = refl
  runs_of [] (r ∷ rs) each tells = absurd each
  runs_of (i ∷ is) [] each tells = absurd each
  runs_of (i ∷ is) (r ∷ rs) each tells = rw (each.0.told tells.0, runs_of is rs each.1 tells.1) refl

  pub names_are : (inputs : List Input) (readers : List Reader) → EachOpens asked inputs readers → names_of readers ≡ map (λ i. i.name) inputs
  names_are [] [] each = refl
  names_are [] (r ∷ rs) each = absurd each
  names_are (i ∷ is) [] each = absurd each
  names_are (i ∷ is) (r ∷ rs) each = rw (each.0.name, names_are is rs each.1) refl

  pub each_tells : (inputs : List Input) (readers : List Reader) → EachOpens asked inputs readers → AllTell inputs → EachTells readers
  each_tells [] [] each tells = tt
  each_tells [] (r ∷ rs) each tells = absurd each
  each_tells (i ∷ is) [] each tells = absurd each
  each_tells (i ∷ is) (r ∷ rs) each tells = (rw each.0.tells tells.0, each_tells is rs each.1 tells.1)

  pub given_is : (inputs : List Input) (readers : List Reader) → EachOpens asked inputs readers → given_of readers ≡ map (λ i. length i.given.bytes) inputs
  given_is [] [] each = refl
  given_is [] (r ∷ rs) each = absurd each
  given_is (i ∷ is) [] each = absurd each
  given_is (i ∷ is) (r ∷ rs) each =
      let here : r.taken + length r.left ≡ length i.given.bytes = omega (arith, each.0.taken, ap length each.0.left) in
      rw (here, given_is is rs each.1) refl

  pub each_on_line : (inputs : List Input) (readers : List Reader) → EachOpens asked inputs readers → EachOnLine readers
  each_on_line [] [] each = tt
  each_on_line [] (r ∷ rs) each = absurd each
  each_on_line (i ∷ is) [] each = absurd each
  each_on_line (i ∷ is) (r ∷ rs) each = (each.0.on_line, each_on_line is rs each.1)

  pub each_all_taken : (inputs : List Input) (readers : List Reader) → EachOpens asked inputs readers → EachAllTaken readers
  each_all_taken [] [] each = tt
  each_all_taken [] (r ∷ rs) each = absurd each
  each_all_taken (i ∷ is) [] each = absurd each
  each_all_taken (i ∷ is) (r ∷ rs) each = (rw each.0.ahead tt, each_all_taken is rs each.1)

  -- the times of each don't fall
  pub each_rises : (inputs : List Input) (readers : List Reader) → EachOpens asked inputs readers → AllTell inputs → EachRises readers
  each_rises [] [] each tells = tt
  each_rises [] (r ∷ rs) each tells = absurd each
  each_rises (i ∷ is) [] each tells = absurd each
  each_rises (i ∷ is) (r ∷ rs) each tells =
      (subst (λ (run : Run Classes). Rises None run.items) (sym (each.0.told tells.0)) (run_rises (trace_form asked.shift i.class) i.given.ending i.given.bytes), each_rises is rs each.1 tells.1)

  -- each is asked for the same texts
  pub each_asked : (inputs : List Input) (readers : List Reader) → EachOpens asked inputs readers → AreAsked asked.trim.begin (writes_of readers)
  each_asked [] [] each = All-nil (λ w. w ≡ texts_of asked.trim.begin)
  each_asked [] (r ∷ rs) each = absurd each
  each_asked (i ∷ is) [] each = absurd each
  each_asked (i ∷ is) (r ∷ rs) each = All-cons (λ w. w ≡ texts_of asked.trim.begin) r.writes (writes_of rs) each.0.writes (each_asked is rs each.1)

  -- one reader more
  pub opens_more : (inputs : List Input) (readers : List Reader) (i : Input) (r : Reader) → EachOpens asked inputs readers → Opens asked i r → EachOpens asked (inputs ++ i ∷ []) (readers ++ r ∷ [])
  opens_more [] [] i r each here = (here, tt)
  opens_more [] (s ∷ ss) i r each here = absurd each
  opens_more (j ∷ js) [] i r each here = absurd each
  opens_more (j ∷ js) (s ∷ ss) i r each here = (each.0, opens_more js ss i r each.1 here)

  pub opens_next : {X : Type 0} (inputs : List Input) (f : X → Input) (ys : List X) (x : X) (readers : List Reader) (r : Reader) → EachOpens asked (inputs ++ map f ys) readers → Opens asked (f x) r
      → EachOpens asked (inputs ++ map f (ys ++ x ∷ [])) (readers ++ r ∷ [])
  opens_next inputs f ys x readers r each here =
      subst (λ (xs : List Input). EachOpens asked xs (readers ++ r ∷ [])) (append_assoc inputs (map f ys) (f x ∷ []) ∙ ap (λ zs. inputs ++ zs) (sym (map-append f ys (x ∷ []))))
      (opens_more (inputs ++ map f ys) readers (f x) r each here)

module _ {S : Type 0} (given : S → Given) where
  -- one trace more
  pub inputs_more : (number : ℕ) (ts : List (Streams S)) (t : Streams S) → inputs_from given number (ts ++ t ∷ []) ≡ inputs_from given number ts ++ map (input_of given (number + length ts) t.class.now) t.streams.items
  inputs_more number [] t = rw append-nil (ap (λ n. map (input_of given n t.class.now) t.streams.items) (omega arith))
  inputs_more number (u ∷ us) t =
      ap (λ rest. map (input_of given number u.class.now) u.streams.items ++ rest) (inputs_more (suc number) us t ∙ ap (λ n. inputs_from given (suc number) us ++ map (input_of given n t.class.now) t.streams.items) (omega arith))
      ∙ sym (append_assoc (map (input_of given number u.class.now) u.streams.items) _ _)

module _ {X : Type 0} where
  -- nothing is left to take
  pub all_taken : (yielded rest all : List X) → yielded ++ rest ≡ all → length rest ≡ 0 → yielded ≡ all
  all_taken yielded [] all whole none = sym (append-nil yielded) ∙ whole
  all_taken yielded (x ∷ xs) all whole none = absurd (omega arith)

  -- one is taken
  pub taken_more : (yielded rest left all : List X) (x : X) → yielded ++ rest ≡ all → rest ≡ x ∷ left → (yielded ++ x ∷ []) ++ left ≡ all
  taken_more yielded rest left all x whole steps = append_assoc yielded (x ∷ []) left ∙ ap (λ ys. yielded ++ ys) (sym steps) ∙ whole

-- the numbers of the traces of the streams of one
pub same_trace : {S : Type 0} (given : S → Given) (number : ℕ) (class : TraceClass) (streams : List (String Global × S)) → map (λ i. i.trace) (map (input_of given number class) streams) ≡ map (λ s. number) streams
same_trace given number class [] = refl
same_trace given number class (s ∷ ss) = ap (λ ns. number ∷ ns) (same_trace given number class ss)

-- one trace more, of this number
pub inputs_at : {S : Type 0} (given : S → Given) (ts : List (Streams S)) (t : Streams S) (k : ℕ) → k ≡ length ts → inputs_from given 0 (ts ++ t ∷ []) ≡ inputs_from given 0 ts ++ map (input_of given k t.class.now) t.streams.items
inputs_at given ts t k is = inputs_more given 0 ts t ∙ ap (λ n. inputs_from given 0 ts ++ map (input_of given n t.class.now) t.streams.items) (omega (arith, is))

-- what is to come of each reader is what was to come of it when it was opened
pub each_means : (old new : List Reader) → EachTells old → EachComes old new → EachMeans (map coming old) new
each_means [] [] tells each = tt
each_means [] (s ∷ ss) tells each = absurd each
each_means (r ∷ rs) [] tells each = absurd each
each_means (r ∷ rs) (s ∷ ss) tells each = (each.0 tells.0, each_means rs ss tells.1 each.1)
