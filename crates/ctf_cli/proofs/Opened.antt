-- Streams that were opened one by one, and why traces were not opened.
use Rattle.std.proofs.Common.{◌≡◌, ◌<◌, ◌≤◌, ◌+◌, ℕ, suc, List, [], ◌∷◌, ◌++◌, map, take, drop, length, get_or, Option, Some, None, option_map, Result, Ok, Err, String, string_bytes, refl, sym, ap, ◌∙◌, append_assoc, append-nil, add-one, drop-cons}
use Rattle.std.proofs.Math.Seq.{take-suc}
use Rattle.std.proofs.lemmas.List.{drop_all, map-append}
use Rattle.std.proofs.lemmas.Option.{slice_get_read}
use Rattle.std.specs.List.{AllZip}
use Rattle.std.specs.Path.{path_join}
use Rattle.std.specs.declared.alloc.Global.{Global}
use Rattle.ctf_run.specs.Traces.{Stream, Trace, trace_of, traces_of}
use Rattle.ctf_run.specs.declared.trace.Trace as declared
use Rattle.ctf_session.specs.Inputs.{Given}
use Rattle.ctf_cli.specs.Files.{Files, closed, found_of}
use Rattle.ctf_cli.specs.Traces.{IsStop, stream_if, stream_then, streams_in, IsTrace, IsBlocked, AreTraces, AreBlocked}
use Rattle.ctf_cli.specs.declared.opening.OpeningFault.{OpeningFault}
use Rattle.ctf_cli.specs.declared.opening.OpeningFault.TheVariants.{Unreadable, NoMemory}

-- ---- streams

-- streams, and those after them
abbrev pub after : List Stream → Result (List Stream) (List ℕ) → Result (List Stream) (List ℕ)
after first (Ok rest) = Ok (first ++ rest)
after first (Err path) = Err path

pub nothing_in_front : (streams : Result (List Stream) (List ℕ)) → streams ≡ after [] streams
nothing_in_front (Ok rest) = refl
nothing_in_front (Err path) = refl

-- one more is opened
pub opened_more : {S : Type 0} (given : S → Given) (first : List Stream) (path name : List ℕ) (opened : Option S) (rest : Result (List Stream) (List ℕ))
    → after first (stream_then path name (found_of given opened) rest) ≡ after (first ++ stream_if name (option_map given opened)) rest
opened_more given first path name None rest = ap (λ xs. after xs rest) (sym (append-nil first))
opened_more given first path name (Some s) (Ok rest) = ap (λ xs. Ok xs) (sym (append_assoc first (record { name = name; given = given s } ∷ []) rest))
opened_more given first path name (Some s) (Err later) = refl

module _ (files : Files) (dir : List ℕ) (names : List (String Global)) (k : ℕ) (name : String Global) (first : List Stream) where
  -- the streams of all names are those so far, and after them those of the names from a place on
  abbrev AreSoFar : ℕ → List Stream → Type 0
  AreSoFar n streams = streams_in files dir (map (string_bytes {Z = Global}) names) ≡ after streams (streams_in files dir (map (string_bytes {Z = Global}) (drop n names)))

  from_here : k < length names → name ≡ get_or names k name → drop k names ≡ name ∷ drop (k + 1) names
  from_here below is = drop-cons names k name below ∙ ap (λ x. x ∷ drop (suc k) names) (sym is) ∙ ap (λ n. name ∷ drop n names) (sym (add-one k))

  -- the name at a place is opened
  pub opened_next : {S : Type 0} (given : S → Given) (opened : Option S) → k < length names → name ≡ get_or names k name → files.found (path_join dir (string_bytes name)) ≡ found_of given opened
      → AreSoFar k first → AreSoFar (k + 1) (first ++ stream_if (string_bytes name) (option_map given opened))
  opened_next given opened below is found whole =
      whole
      ∙ ap (λ xs. after first (streams_in files dir (map (string_bytes {Z = Global}) xs))) (from_here below is)
      ∙ ap (λ f. after first (stream_then (path_join dir (string_bytes name)) (string_bytes name) f (streams_in files dir (map (string_bytes {Z = Global}) (drop (k + 1) names))))) found
      ∙ opened_more given first (path_join dir (string_bytes name)) (string_bytes name) opened _

  -- the name at a place can't be opened
  pub blocked_next : k < length names → name ≡ get_or names k name → files.found (path_join dir (string_bytes name)) ≡ closed → AreSoFar k first
      → streams_in files dir (map (string_bytes {Z = Global}) names) ≡ Err (path_join dir (string_bytes name))
  blocked_next below is found whole =
      whole
      ∙ ap (λ xs. after first (streams_in files dir (map (string_bytes {Z = Global}) xs))) (from_here below is)
      ∙ ap (λ f. after first (stream_then (path_join dir (string_bytes name)) (string_bytes name) f (streams_in files dir (map (string_bytes {Z = Global}) (drop (k + 1) names))))) found

-- no name is left
pub opened_all : (files : Files) (dir : List ℕ) (names : List (String Global)) (k : ℕ) (first : List Stream) → length names ≤ k
    → after first (streams_in files dir (map (string_bytes {Z = Global}) (drop k names))) ≡ Ok first
opened_all files dir names k first past = rw (drop_all k names past) (ap (λ xs. Ok xs) (append-nil first))

-- ---- stops

-- what blocks in one way blocks in another
pub stop_as : {P Q : List ℕ → Type 0} → ((path : List ℕ) → P path → Q path) → (stop : OpeningFault) → IsStop P stop → IsStop Q stop
stop_as f (Unreadable line) is = (is.0, f is.0 is.1, is.2)
stop_as f NoMemory is = tt

-- ---- traces

zip_more : {A B : Type 0} (R : A → B → Type 0) (xs : List A) (ys : List B) (x : A) (y : B) → AllZip R xs ys → R x y → AllZip R (xs ++ x ∷ []) (ys ++ y ∷ [])
zip_more R [] [] x y each here = (here, tt)
zip_more R [] (b ∷ bs) x y each here = absurd each
zip_more R (w ∷ ws) [] x y each here = absurd each
zip_more R (w ∷ ws) (b ∷ bs) x y each here = (each.0, zip_more R ws bs x y each.1 here)

module _ (files : Files) (dirs : List (List ℕ)) (k : ℕ) (dir : List ℕ) where
  -- the folder at a place holds a trace
  pub traces_next : {S : Type 0} (given : S → Given) (traces : List (declared.Trace S)) (trace : declared.Trace S) → k < length dirs → dir ≡ get_or dirs k dir
      → AreTraces files (take k dirs) (traces_of given traces) → IsTrace files dir (trace_of given trace) → AreTraces files (take (k + 1) dirs) (traces_of given (traces ++ trace ∷ []))
  traces_next given traces trace below is before here =
      let taken : take (k + 1) dirs ≡ take k dirs ++ dir ∷ [] = ap (λ n. take n dirs) (add-one k) ∙ take-suc dirs k dir below ∙ ap (λ x. take k dirs ++ x ∷ []) (sym is) in
      rw (taken, map-append (trace_of given) traces (trace ∷ [])) (zip_more (IsTrace files) (take k dirs) (traces_of given traces) dir (trace_of given trace) before here)

  -- the folder at a place is the first that is blocked
  pub blocked_at : (before : List Trace) (path : List ℕ) → k < length dirs → dir ≡ get_or dirs k dir → AreTraces files (take k dirs) before → IsBlocked files dir path → AreBlocked files dirs path
  blocked_at before path below is are_before blocked = record {
    number = k;
    dir = dir;
    at = slice_get_read dirs (length dirs) k dir refl below is;
    before = before;
    are_before = are_before;
    blocked = blocked;
  }
