-- A value does not end before the place where it was looked for.
use Rattle.std.proofs.Common.{◌≡◌, ℕ, zero, suc, ◌≤◌, List, [], ◌∷◌, ◌++◌, arith}
use Rattle.std.specs.Int.{next_multiple_of}
use Rattle.ctf_decode.specs.Values.{Val}
use Rattle.ctf_decode.specs.Forms.{Form, Parts, integer, enumeration, string, structure, variant, array, text, no_parts, part, align_of}
use Rattle.ctf_decode.specs.Input.{Input, Env}
use Rattle.ctf_decode.specs.Routes.{length_of}
use Rattle.ctf_decode.specs.Stands.{StandsRow, Stands, StandsMembers, StandsOption}

pub row : (R : ℕ → Val → ℕ → Type 0) → ((p : ℕ) (v : Val) (q : ℕ) → R p v q → p ≤ q) → (n : ℕ) (done : List Val) (p : ℕ) (vs : List Val) (q : ℕ) → StandsRow R n done p vs q → p ≤ q
row R f zero done p vs q h = let e : q ≡ p = h.1 in omega arith
row R f (suc n) done p vs q h =
    let l : p ≤ h.1 = f p h.0 h.1 h.2 in
    let m : h.1 ≤ q = row R f n (done ++ h.0 ∷ []) h.1 vs q h.3 in
    omega arith

mutual
  pub forward : (k : Form) (c : Input) (env : Env) (p : ℕ) (v : Val) (q : ℕ) → Stands k c env p v q → p ≤ q
  forward (integer a i) c env p v q h = let e = h.ends in omega arith
  forward (enumeration a i) c env p v q h = let e = h.ends in omega arith
  forward (string a) c env p v q h = let e = h.ends in omega arith
  forward (structure a ps) c env p v q h = let l = forward_members ps c env [] (next_multiple_of p a) h.1.0 q h.1.2 in omega arith
  forward (variant a tag choices ps) c env p v q h = forward_option ps h.0 c env p h.2.0 q h.2.2
  forward (array a many k) c env p v q h =
      let l = row (Stands k c env) (λ x w y g. forward k c env x w y g) (length_of many c.earlier env) [] (next_multiple_of p (align_of k)) h.1.0 q h.1.2 in omega arith
  forward (text a many) c env p v q h = let e = h.ends in omega arith

  pub forward_members : (ps : Parts) (c : Input) (env : Env) (done : List Val) (p : ℕ) (vs : List Val) (q : ℕ) → StandsMembers ps c env done p vs q → p ≤ q
  forward_members no_parts c env done p vs q h = let e : q ≡ p = h.1 in omega arith
  forward_members (part n k ps) c env done p vs q h =
      let l : p ≤ h.1 = forward k c (done ∷ env) p h.0 h.1 h.2 in
      let m : h.1 ≤ q = forward_members ps c env (done ++ h.0 ∷ []) h.1 vs q h.3 in
      omega arith

  forward_option : (ps : Parts) (i : ℕ) (c : Input) (env : Env) (p : ℕ) (v : Val) (q : ℕ) → StandsOption ps i c env p v q → p ≤ q
  forward_option no_parts i c env p v q h = absurd h
  forward_option (part n k ps) zero c env p v q h = forward k c env p v q h
  forward_option (part n k ps) (suc i) c env p v q h = forward_option ps i c env p v q h
