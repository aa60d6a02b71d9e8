-- The host of a text that grows at its end.
use Rattle.std.proofs.Common.{◌≡◌, ℕ, ◌+◌, ◌<◌, List, [], ◌∷◌, ◌++◌, map, take, length, get_or, reverse, find, Option, Some, None, option_map, option_and_then, unwrap_or, codes, sym, ap, ◌∙◌, refl}
use Rattle.std.specs.List.{flat_map}
use Rattle.std.specs.Option.{option_or}
use Rattle.std.proofs.lemmas.List.{take_more, map-append, reverse-append, append-nil}
use Rattle.std.proofs.lemmas.List.Folds.{find-append}
use Rattle.std.proofs.lemmas.Grind.{flat_map-append}
use Rattle.tsdl_tree.specs.declared.tree.Setting.{Setting}
use Rattle.tsdl_tree.specs.declared.tree.Value.{Value}
use Rattle.tsdl_tree.specs.declared.tree.Declaration.{Declaration as TreeDeclaration}
use Rattle.ctf_meaning.specs.Name.{same_words}
use Rattle.ctf_meaning.specs.Settings.{one}
use Rattle.ctf_meaning.specs.Written.{Declaration}
use Rattle.ctf_meaning.specs.Reading.{declaration_of}
use Rattle.ctf_meaning.specs.Denotes.{host_of, environment_by, string_of}
use Rattle.ctf_attributes.specs.Hosts.{last_host}

-- the last `hostname` entry of a text
last_in : List Declaration → Option Setting
last_in text = last_host (flat_map environment_by text)

last_in-more : (text : List Declaration) (d : Declaration) → last_in (text ++ d ∷ []) ≡ option_or (last_host (environment_by d)) (last_in text)
unfolding last_in
last_in-more text d =
    let old = flat_map environment_by text in
    let new = environment_by d in
    let whole : flat_map environment_by (text ++ d ∷ []) ≡ old ++ new =
    flat_map-append environment_by text (d ∷ []) ∙ ap (λ xs. old ++ xs) (append-nil new) in
    ap last_host whole ∙ (ap (find (λ s. same_words s.name (one (codes "hostname")))) (reverse-append old new) ∙ find-append _ (reverse new) (reverse old))

string_in : Option Setting → Option (List ℕ)
string_in = option_and_then (λ s. string_of s.value)

later-found : (new old : Option Setting) (v : Value) → option_map (λ s. s.value) new ≡ Some v → string_in (option_or new old) ≡ string_of v
unfolding string_in
later-found None old v h = cc
later-found (Some s) old v h = ap (λ found. string_of (unwrap_or found s.value)) h

later-missing : (new old : Option Setting) → option_map (λ s. s.value) new ≡ None → string_in (option_or new old) ≡ string_in old
unfolding string_in
later-missing None old h = refl
later-missing (Some s) old h = cc

text-more : (ds : List TreeDeclaration) (i : ℕ) (d : TreeDeclaration) → i < length ds → d ≡ get_or ds i d → map declaration_of (take (i + 1) ds) ≡ map declaration_of (take i ds) ++ declaration_of d ∷ []
text-more ds i d within read =
    ap (map declaration_of) (take_more ds i d within ∙ ap (λ x. take i ds ++ x ∷ []) (sym read)) ∙ map-append declaration_of (take i ds) (d ∷ [])

host-more : (ds : List TreeDeclaration) (i : ℕ) (d : TreeDeclaration) → i < length ds → d ≡ get_or ds i d → host_of (map declaration_of (take (i + 1) ds)) ≡ string_in (option_or (last_host (environment_by (declaration_of d))) (last_in (map declaration_of (take i ds))))
unfolding string_in last_in
host-more ds i d within read =
    ap host_of (text-more ds i d within read) ∙ ap string_in (last_in-more (map declaration_of (take i ds)) (declaration_of d))

pub host-found : (ds : List TreeDeclaration) (i : ℕ) (d : TreeDeclaration) (settings : List Setting) (v : Value) (new : Option (List ℕ)) → i < length ds → d ≡ get_or ds i d → settings ≡ environment_by (declaration_of d) → Some v ≡ option_map (λ s. s.value) (last_host settings) → new ≡ string_of v → new ≡ host_of (map declaration_of (take (i + 1) ds))
host-found ds i d settings v new within read here found same =
    let h = ap (λ xs. option_map (λ s. s.value) (last_host xs)) (sym here) ∙ sym found in
    same ∙ sym (host-more ds i d within read ∙ later-found (last_host (environment_by (declaration_of d))) (last_in (map declaration_of (take i ds))) v h)

pub host-missing : (ds : List TreeDeclaration) (i : ℕ) (d : TreeDeclaration) (settings : List Setting) (new : Option (List ℕ)) → i < length ds → d ≡ get_or ds i d → settings ≡ environment_by (declaration_of d) → None ≡ option_map (λ s. s.value) (last_host settings) → new ≡ host_of (map declaration_of (take i ds)) → new ≡ host_of (map declaration_of (take (i + 1) ds))
unfolding string_in last_in
host-missing ds i d settings new within read here found same =
    let h = ap (λ xs. option_map (λ s. s.value) (last_host xs)) (sym here) ∙ sym found in
    same ∙ sym (host-more ds i d within read ∙ later-missing (last_host (environment_by (declaration_of d))) (last_in (map declaration_of (take i ds))) h)
