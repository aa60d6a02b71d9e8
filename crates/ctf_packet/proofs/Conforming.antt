-- What is of a class has its form: each integer in it has what every number that is read has.
use Rattle.std.proofs.Common.{◌≡◌, ℕ, zero, suc, ℤ, List, [], ◌∷◌, ◌++◌, refl, sym, ◌∙◌, subst, append_assoc, append-nil}
use Rattle.ctf_class.specs.declared.integer.Integer.{Integer}
use Rattle.ctf_decode.specs.Values.{Val, label, group, list, choice, vals_of}
use Rattle.ctf_decode.specs.Forms.{Form, Parts, integer, enumeration, string, structure, variant, array, text, no_parts, part}
use Rattle.ctf_decode.specs.Input.{Input, Env, integer_at}
use Rattle.ctf_decode.specs.Routes.{length_of}
use Rattle.ctf_decode.specs.Stands.{StandsRow, Stands, StandsMembers, StandsOption}

-- P of each value
abbrev pub Each : {X : Type 0} → (X → Type 0) → List X → Type 0
Each P [] = Unit {0}
Each P (x ∷ xs) = P x × Each P xs

module _ (P : Integer → Val → Type 0) where
  abbrev mutual
    pub Conforms : Form → Val → Type 0
    Conforms (integer a i) v = P i v
    Conforms (enumeration a i) v = (z : ℤ) × (v ≡ label z)
    Conforms (structure a ps) v = (vs : List Val) × (v ≡ group (vals_of vs)) × ConformAll ps vs
    Conforms (variant a tag choices ps) v = (i : ℕ) × (w : Val) × (v ≡ choice i w) × ConformsOption ps i w
    Conforms (array a many k) v = (vs : List Val) × (v ≡ list (vals_of vs)) × Each (Conforms k) vs
    Conforms (string a) v = Unit {0}
    Conforms (text a many) v = Unit {0}

    pub ConformAll : Parts → List Val → Type 0
    ConformAll no_parts vs = vs ≡ []
    ConformAll (part n k ps) vs = (v : Val) × (ws : List Val) × (vs ≡ v ∷ ws) × Conforms k v × ConformAll ps ws

    pub ConformsOption : Parts → ℕ → Val → Type 0
    ConformsOption no_parts i v = ⊥
    ConformsOption (part n k ps) zero v = Conforms k v
    ConformsOption (part n k ps) (suc i) v = ConformsOption ps i v

  -- values after those that are done
  abbrev After : (List Val → Type 0) → List Val → List Val → Type 0
  After T done vs = (ws : List Val) × (vs ≡ done ++ ws) × T ws

  module _ (read : (c : Input) (i : Integer) (b : ℕ) → P i (integer_at c i b)) where
    row_conforms : (R : ℕ → Val → ℕ → Type 0) (T : Val → Type 0) → ((p : ℕ) (v : Val) (q : ℕ) → R p v q → T v)
        → (n : ℕ) (done : List Val) (p : ℕ) (vs : List Val) (q : ℕ) → StandsRow R n done p vs q → After (Each T) done vs
    row_conforms R T one zero done p vs q s = ([], s.0 ∙ sym (append-nil done), tt)
    row_conforms R T one (suc n) done p vs q s =
        let rest = row_conforms R T one n (done ++ s.0 ∷ []) s.1 vs q s.3 in
        (s.0 ∷ rest.0, rest.1 ∙ append_assoc done (s.0 ∷ []) rest.0, (one p s.0 s.1 s.2, rest.2))

    mutual
      pub stands_conform : (k : Form) (c : Input) (env : Env) (p : ℕ) (v : Val) (q : ℕ) → Stands k c env p v q → Conforms k v
      stands_conform (integer a i) c env p v q s = subst (P i) (sym s.value) (read c i _)
      stands_conform (enumeration a i) c env p v q s = (_, s.value)
      stands_conform (string a) c env p v q s = tt
      stands_conform (structure a ps) c env p v q s =
          let rest = members_conform ps c env [] _ s.1.0 q s.1.2 in
          (s.1.0, s.1.1, subst (ConformAll ps) (sym rest.1) rest.2)
      stands_conform (variant a tag choices ps) c env p v q s = (s.0, s.2.0, s.2.1, option_conforms ps s.0 c env p s.2.0 q s.2.2)
      stands_conform (array a many k) c env p v q s =
          let rest = row_conforms (Stands k c env) (Conforms k) (λ b w e t. stands_conform k c env b w e t) (length_of many c.earlier env) [] _ s.1.0 q s.1.2 in
          (s.1.0, s.1.1, subst (Each (Conforms k)) (sym rest.1) rest.2)
      stands_conform (text a many) c env p v q s = tt

      pub members_conform : (ps : Parts) (c : Input) (env : Env) (done : List Val) (p : ℕ) (vs : List Val) (q : ℕ) → StandsMembers ps c env done p vs q → After (ConformAll ps) done vs
      members_conform no_parts c env done p vs q s = ([], s.0 ∙ sym (append-nil done), refl)
      members_conform (part n k ps) c env done p vs q s =
          let rest = members_conform ps c env (done ++ s.0 ∷ []) s.1 vs q s.3 in
          (s.0 ∷ rest.0, rest.1 ∙ append_assoc done (s.0 ∷ []) rest.0, (s.0, rest.0, refl, stands_conform k c (done ∷ env) p s.0 s.1 s.2, rest.2))

      pub option_conforms : (ps : Parts) (i : ℕ) (c : Input) (env : Env) (p : ℕ) (v : Val) (q : ℕ) → StandsOption ps i c env p v q → ConformsOption ps i v
      option_conforms no_parts i c env p v q s = absurd s
      option_conforms (part n k ps) zero c env p v q s = stands_conform k c env p v q s
      option_conforms (part n k ps) (suc i) c env p v q s = option_conforms ps i c env p v q s
