-- How deep classes lie in one another, and how many there are.
use Rattle.std.specs.Prelude.{◌≡◌, List, [], ◌∷◌, Some, None, codes, refl}
use Rattle.tsdl_tree.specs.declared.tree.BlockKind.TheVariants as kind
use Rattle.tsdl_tree.specs.declared.tree.Length.TheVariants as lengths
use Rattle.ctf_class.specs.declared.class.Kind.TheVariants as class
use Rattle.ctf_meaning.specs.declared.fault.ResolveFault.TheVariants.{TooDeep}
use Rattle.ctf_meaning.specs.Name as name
use Rattle.ctf_meaning.specs.Written.{Declaration, Block, Names, Assigned, Classed, String, Struct, Named, Fields, Alias, Definition, Compound, items_from}
use Rattle.ctf_meaning.specs.Denotes.{class_of_text}
use Rattle.ctf_meaning.specs.Scopes.{nodes_before, node_faults}
use Rattle.meaning_tests.proofs.Writing.{le_trace, event_with, denotes_fields, counts, quotes, sized, structure, field, declarator, unsigned, fixed, made, member, event, stream, trace, told}

-- struct s0 { integer { size = 8; } a; }; struct s1 { struct s0 a; }; struct s2 { struct s1 a; }; struct s3 { struct s2
-- a; }; struct s4 { struct s3 a; }; struct s5 { struct s4 a; }; struct s6 { struct s5 a; }; ..
abbrev pub chain_62 : List Declaration
chain_62 =
    Names (Compound (Struct (Some (codes "s0")) (items_from (field (sized 8) (codes "a") ∷ [])) None))
    ∷ Names (Compound (Struct (Some (codes "s1")) (items_from (field (Named (name.Struct (codes "s0")) None) (codes "a") ∷ [])) None))
    ∷ Names (Compound (Struct (Some (codes "s2")) (items_from (field (Named (name.Struct (codes "s1")) None) (codes "a") ∷ [])) None))
    ∷ Names (Compound (Struct (Some (codes "s3")) (items_from (field (Named (name.Struct (codes "s2")) None) (codes "a") ∷ [])) None))
    ∷ Names (Compound (Struct (Some (codes "s4")) (items_from (field (Named (name.Struct (codes "s3")) None) (codes "a") ∷ [])) None))
    ∷ Names (Compound (Struct (Some (codes "s5")) (items_from (field (Named (name.Struct (codes "s4")) None) (codes "a") ∷ [])) None))
    ∷ Names (Compound (Struct (Some (codes "s6")) (items_from (field (Named (name.Struct (codes "s5")) None) (codes "a") ∷ [])) None))
    ∷ Names (Compound (Struct (Some (codes "s7")) (items_from (field (Named (name.Struct (codes "s6")) None) (codes "a") ∷ [])) None))
    ∷ Names (Compound (Struct (Some (codes "s8")) (items_from (field (Named (name.Struct (codes "s7")) None) (codes "a") ∷ [])) None))
    ∷ Names (Compound (Struct (Some (codes "s9")) (items_from (field (Named (name.Struct (codes "s8")) None) (codes "a") ∷ [])) None))
    ∷ Names (Compound (Struct (Some (codes "s10")) (items_from (field (Named (name.Struct (codes "s9")) None) (codes "a") ∷ [])) None))
    ∷ Names (Compound (Struct (Some (codes "s11")) (items_from (field (Named (name.Struct (codes "s10")) None) (codes "a") ∷ [])) None))
    ∷ Names (Compound (Struct (Some (codes "s12")) (items_from (field (Named (name.Struct (codes "s11")) None) (codes "a") ∷ [])) None))
    ∷ Names (Compound (Struct (Some (codes "s13")) (items_from (field (Named (name.Struct (codes "s12")) None) (codes "a") ∷ [])) None))
    ∷ Names (Compound (Struct (Some (codes "s14")) (items_from (field (Named (name.Struct (codes "s13")) None) (codes "a") ∷ [])) None))
    ∷ Names (Compound (Struct (Some (codes "s15")) (items_from (field (Named (name.Struct (codes "s14")) None) (codes "a") ∷ [])) None))
    ∷ Names (Compound (Struct (Some (codes "s16")) (items_from (field (Named (name.Struct (codes "s15")) None) (codes "a") ∷ [])) None))
    ∷ Names (Compound (Struct (Some (codes "s17")) (items_from (field (Named (name.Struct (codes "s16")) None) (codes "a") ∷ [])) None))
    ∷ Names (Compound (Struct (Some (codes "s18")) (items_from (field (Named (name.Struct (codes "s17")) None) (codes "a") ∷ [])) None))
    ∷ Names (Compound (Struct (Some (codes "s19")) (items_from (field (Named (name.Struct (codes "s18")) None) (codes "a") ∷ [])) None))
    ∷ Names (Compound (Struct (Some (codes "s20")) (items_from (field (Named (name.Struct (codes "s19")) None) (codes "a") ∷ [])) None))
    ∷ Names (Compound (Struct (Some (codes "s21")) (items_from (field (Named (name.Struct (codes "s20")) None) (codes "a") ∷ [])) None))
    ∷ Names (Compound (Struct (Some (codes "s22")) (items_from (field (Named (name.Struct (codes "s21")) None) (codes "a") ∷ [])) None))
    ∷ Names (Compound (Struct (Some (codes "s23")) (items_from (field (Named (name.Struct (codes "s22")) None) (codes "a") ∷ [])) None))
    ∷ Names (Compound (Struct (Some (codes "s24")) (items_from (field (Named (name.Struct (codes "s23")) None) (codes "a") ∷ [])) None))
    ∷ Names (Compound (Struct (Some (codes "s25")) (items_from (field (Named (name.Struct (codes "s24")) None) (codes "a") ∷ [])) None))
    ∷ Names (Compound (Struct (Some (codes "s26")) (items_from (field (Named (name.Struct (codes "s25")) None) (codes "a") ∷ [])) None))
    ∷ Names (Compound (Struct (Some (codes "s27")) (items_from (field (Named (name.Struct (codes "s26")) None) (codes "a") ∷ [])) None))
    ∷ Names (Compound (Struct (Some (codes "s28")) (items_from (field (Named (name.Struct (codes "s27")) None) (codes "a") ∷ [])) None))
    ∷ Names (Compound (Struct (Some (codes "s29")) (items_from (field (Named (name.Struct (codes "s28")) None) (codes "a") ∷ [])) None))
    ∷ Names (Compound (Struct (Some (codes "s30")) (items_from (field (Named (name.Struct (codes "s29")) None) (codes "a") ∷ [])) None))
    ∷ Names (Compound (Struct (Some (codes "s31")) (items_from (field (Named (name.Struct (codes "s30")) None) (codes "a") ∷ [])) None))
    ∷ Names (Compound (Struct (Some (codes "s32")) (items_from (field (Named (name.Struct (codes "s31")) None) (codes "a") ∷ [])) None))
    ∷ Names (Compound (Struct (Some (codes "s33")) (items_from (field (Named (name.Struct (codes "s32")) None) (codes "a") ∷ [])) None))
    ∷ Names (Compound (Struct (Some (codes "s34")) (items_from (field (Named (name.Struct (codes "s33")) None) (codes "a") ∷ [])) None))
    ∷ Names (Compound (Struct (Some (codes "s35")) (items_from (field (Named (name.Struct (codes "s34")) None) (codes "a") ∷ [])) None))
    ∷ Names (Compound (Struct (Some (codes "s36")) (items_from (field (Named (name.Struct (codes "s35")) None) (codes "a") ∷ [])) None))
    ∷ Names (Compound (Struct (Some (codes "s37")) (items_from (field (Named (name.Struct (codes "s36")) None) (codes "a") ∷ [])) None))
    ∷ Names (Compound (Struct (Some (codes "s38")) (items_from (field (Named (name.Struct (codes "s37")) None) (codes "a") ∷ [])) None))
    ∷ Names (Compound (Struct (Some (codes "s39")) (items_from (field (Named (name.Struct (codes "s38")) None) (codes "a") ∷ [])) None))
    ∷ Names (Compound (Struct (Some (codes "s40")) (items_from (field (Named (name.Struct (codes "s39")) None) (codes "a") ∷ [])) None))
    ∷ Names (Compound (Struct (Some (codes "s41")) (items_from (field (Named (name.Struct (codes "s40")) None) (codes "a") ∷ [])) None))
    ∷ Names (Compound (Struct (Some (codes "s42")) (items_from (field (Named (name.Struct (codes "s41")) None) (codes "a") ∷ [])) None))
    ∷ Names (Compound (Struct (Some (codes "s43")) (items_from (field (Named (name.Struct (codes "s42")) None) (codes "a") ∷ [])) None))
    ∷ Names (Compound (Struct (Some (codes "s44")) (items_from (field (Named (name.Struct (codes "s43")) None) (codes "a") ∷ [])) None))
    ∷ Names (Compound (Struct (Some (codes "s45")) (items_from (field (Named (name.Struct (codes "s44")) None) (codes "a") ∷ [])) None))
    ∷ Names (Compound (Struct (Some (codes "s46")) (items_from (field (Named (name.Struct (codes "s45")) None) (codes "a") ∷ [])) None))
    ∷ Names (Compound (Struct (Some (codes "s47")) (items_from (field (Named (name.Struct (codes "s46")) None) (codes "a") ∷ [])) None))
    ∷ Names (Compound (Struct (Some (codes "s48")) (items_from (field (Named (name.Struct (codes "s47")) None) (codes "a") ∷ [])) None))
    ∷ Names (Compound (Struct (Some (codes "s49")) (items_from (field (Named (name.Struct (codes "s48")) None) (codes "a") ∷ [])) None))
    ∷ Names (Compound (Struct (Some (codes "s50")) (items_from (field (Named (name.Struct (codes "s49")) None) (codes "a") ∷ [])) None))
    ∷ Names (Compound (Struct (Some (codes "s51")) (items_from (field (Named (name.Struct (codes "s50")) None) (codes "a") ∷ [])) None))
    ∷ Names (Compound (Struct (Some (codes "s52")) (items_from (field (Named (name.Struct (codes "s51")) None) (codes "a") ∷ [])) None))
    ∷ Names (Compound (Struct (Some (codes "s53")) (items_from (field (Named (name.Struct (codes "s52")) None) (codes "a") ∷ [])) None))
    ∷ Names (Compound (Struct (Some (codes "s54")) (items_from (field (Named (name.Struct (codes "s53")) None) (codes "a") ∷ [])) None))
    ∷ Names (Compound (Struct (Some (codes "s55")) (items_from (field (Named (name.Struct (codes "s54")) None) (codes "a") ∷ [])) None))
    ∷ Names (Compound (Struct (Some (codes "s56")) (items_from (field (Named (name.Struct (codes "s55")) None) (codes "a") ∷ [])) None))
    ∷ Names (Compound (Struct (Some (codes "s57")) (items_from (field (Named (name.Struct (codes "s56")) None) (codes "a") ∷ [])) None))
    ∷ Names (Compound (Struct (Some (codes "s58")) (items_from (field (Named (name.Struct (codes "s57")) None) (codes "a") ∷ [])) None))
    ∷ Names (Compound (Struct (Some (codes "s59")) (items_from (field (Named (name.Struct (codes "s58")) None) (codes "a") ∷ [])) None))
    ∷ Names (Compound (Struct (Some (codes "s60")) (items_from (field (Named (name.Struct (codes "s59")) None) (codes "a") ∷ [])) None))
    ∷ Names (Compound (Struct (Some (codes "s61")) (items_from (field (Named (name.Struct (codes "s60")) None) (codes "a") ∷ [])) None))
    ∷ Names (Compound (Struct (Some (codes "s62")) (items_from (field (Named (name.Struct (codes "s61")) None) (codes "a") ∷ [])) None))
    ∷ le_trace
    ∷ []

pub chain_62_faults : told chain_62 ≡ []
chain_62_faults = refl

pub chain_62_class : class_of_text chain_62 ≡ Some (trace None None None (stream 0 None None None None [] ∷ []))
chain_62_class = refl

-- struct s0 { integer { size = 8; } a; }; struct s1 { struct s0 a; }; struct s2 { struct s1 a; }; struct s3 { struct s2
-- a; }; struct s4 { struct s3 a; }; struct s5 { struct s4 a; }; struct s6 { struct s5 a; }; ..
abbrev pub chain_63 : List Declaration
chain_63 =
    Names (Compound (Struct (Some (codes "s0")) (items_from (field (sized 8) (codes "a") ∷ [])) None))
    ∷ Names (Compound (Struct (Some (codes "s1")) (items_from (field (Named (name.Struct (codes "s0")) None) (codes "a") ∷ [])) None))
    ∷ Names (Compound (Struct (Some (codes "s2")) (items_from (field (Named (name.Struct (codes "s1")) None) (codes "a") ∷ [])) None))
    ∷ Names (Compound (Struct (Some (codes "s3")) (items_from (field (Named (name.Struct (codes "s2")) None) (codes "a") ∷ [])) None))
    ∷ Names (Compound (Struct (Some (codes "s4")) (items_from (field (Named (name.Struct (codes "s3")) None) (codes "a") ∷ [])) None))
    ∷ Names (Compound (Struct (Some (codes "s5")) (items_from (field (Named (name.Struct (codes "s4")) None) (codes "a") ∷ [])) None))
    ∷ Names (Compound (Struct (Some (codes "s6")) (items_from (field (Named (name.Struct (codes "s5")) None) (codes "a") ∷ [])) None))
    ∷ Names (Compound (Struct (Some (codes "s7")) (items_from (field (Named (name.Struct (codes "s6")) None) (codes "a") ∷ [])) None))
    ∷ Names (Compound (Struct (Some (codes "s8")) (items_from (field (Named (name.Struct (codes "s7")) None) (codes "a") ∷ [])) None))
    ∷ Names (Compound (Struct (Some (codes "s9")) (items_from (field (Named (name.Struct (codes "s8")) None) (codes "a") ∷ [])) None))
    ∷ Names (Compound (Struct (Some (codes "s10")) (items_from (field (Named (name.Struct (codes "s9")) None) (codes "a") ∷ [])) None))
    ∷ Names (Compound (Struct (Some (codes "s11")) (items_from (field (Named (name.Struct (codes "s10")) None) (codes "a") ∷ [])) None))
    ∷ Names (Compound (Struct (Some (codes "s12")) (items_from (field (Named (name.Struct (codes "s11")) None) (codes "a") ∷ [])) None))
    ∷ Names (Compound (Struct (Some (codes "s13")) (items_from (field (Named (name.Struct (codes "s12")) None) (codes "a") ∷ [])) None))
    ∷ Names (Compound (Struct (Some (codes "s14")) (items_from (field (Named (name.Struct (codes "s13")) None) (codes "a") ∷ [])) None))
    ∷ Names (Compound (Struct (Some (codes "s15")) (items_from (field (Named (name.Struct (codes "s14")) None) (codes "a") ∷ [])) None))
    ∷ Names (Compound (Struct (Some (codes "s16")) (items_from (field (Named (name.Struct (codes "s15")) None) (codes "a") ∷ [])) None))
    ∷ Names (Compound (Struct (Some (codes "s17")) (items_from (field (Named (name.Struct (codes "s16")) None) (codes "a") ∷ [])) None))
    ∷ Names (Compound (Struct (Some (codes "s18")) (items_from (field (Named (name.Struct (codes "s17")) None) (codes "a") ∷ [])) None))
    ∷ Names (Compound (Struct (Some (codes "s19")) (items_from (field (Named (name.Struct (codes "s18")) None) (codes "a") ∷ [])) None))
    ∷ Names (Compound (Struct (Some (codes "s20")) (items_from (field (Named (name.Struct (codes "s19")) None) (codes "a") ∷ [])) None))
    ∷ Names (Compound (Struct (Some (codes "s21")) (items_from (field (Named (name.Struct (codes "s20")) None) (codes "a") ∷ [])) None))
    ∷ Names (Compound (Struct (Some (codes "s22")) (items_from (field (Named (name.Struct (codes "s21")) None) (codes "a") ∷ [])) None))
    ∷ Names (Compound (Struct (Some (codes "s23")) (items_from (field (Named (name.Struct (codes "s22")) None) (codes "a") ∷ [])) None))
    ∷ Names (Compound (Struct (Some (codes "s24")) (items_from (field (Named (name.Struct (codes "s23")) None) (codes "a") ∷ [])) None))
    ∷ Names (Compound (Struct (Some (codes "s25")) (items_from (field (Named (name.Struct (codes "s24")) None) (codes "a") ∷ [])) None))
    ∷ Names (Compound (Struct (Some (codes "s26")) (items_from (field (Named (name.Struct (codes "s25")) None) (codes "a") ∷ [])) None))
    ∷ Names (Compound (Struct (Some (codes "s27")) (items_from (field (Named (name.Struct (codes "s26")) None) (codes "a") ∷ [])) None))
    ∷ Names (Compound (Struct (Some (codes "s28")) (items_from (field (Named (name.Struct (codes "s27")) None) (codes "a") ∷ [])) None))
    ∷ Names (Compound (Struct (Some (codes "s29")) (items_from (field (Named (name.Struct (codes "s28")) None) (codes "a") ∷ [])) None))
    ∷ Names (Compound (Struct (Some (codes "s30")) (items_from (field (Named (name.Struct (codes "s29")) None) (codes "a") ∷ [])) None))
    ∷ Names (Compound (Struct (Some (codes "s31")) (items_from (field (Named (name.Struct (codes "s30")) None) (codes "a") ∷ [])) None))
    ∷ Names (Compound (Struct (Some (codes "s32")) (items_from (field (Named (name.Struct (codes "s31")) None) (codes "a") ∷ [])) None))
    ∷ Names (Compound (Struct (Some (codes "s33")) (items_from (field (Named (name.Struct (codes "s32")) None) (codes "a") ∷ [])) None))
    ∷ Names (Compound (Struct (Some (codes "s34")) (items_from (field (Named (name.Struct (codes "s33")) None) (codes "a") ∷ [])) None))
    ∷ Names (Compound (Struct (Some (codes "s35")) (items_from (field (Named (name.Struct (codes "s34")) None) (codes "a") ∷ [])) None))
    ∷ Names (Compound (Struct (Some (codes "s36")) (items_from (field (Named (name.Struct (codes "s35")) None) (codes "a") ∷ [])) None))
    ∷ Names (Compound (Struct (Some (codes "s37")) (items_from (field (Named (name.Struct (codes "s36")) None) (codes "a") ∷ [])) None))
    ∷ Names (Compound (Struct (Some (codes "s38")) (items_from (field (Named (name.Struct (codes "s37")) None) (codes "a") ∷ [])) None))
    ∷ Names (Compound (Struct (Some (codes "s39")) (items_from (field (Named (name.Struct (codes "s38")) None) (codes "a") ∷ [])) None))
    ∷ Names (Compound (Struct (Some (codes "s40")) (items_from (field (Named (name.Struct (codes "s39")) None) (codes "a") ∷ [])) None))
    ∷ Names (Compound (Struct (Some (codes "s41")) (items_from (field (Named (name.Struct (codes "s40")) None) (codes "a") ∷ [])) None))
    ∷ Names (Compound (Struct (Some (codes "s42")) (items_from (field (Named (name.Struct (codes "s41")) None) (codes "a") ∷ [])) None))
    ∷ Names (Compound (Struct (Some (codes "s43")) (items_from (field (Named (name.Struct (codes "s42")) None) (codes "a") ∷ [])) None))
    ∷ Names (Compound (Struct (Some (codes "s44")) (items_from (field (Named (name.Struct (codes "s43")) None) (codes "a") ∷ [])) None))
    ∷ Names (Compound (Struct (Some (codes "s45")) (items_from (field (Named (name.Struct (codes "s44")) None) (codes "a") ∷ [])) None))
    ∷ Names (Compound (Struct (Some (codes "s46")) (items_from (field (Named (name.Struct (codes "s45")) None) (codes "a") ∷ [])) None))
    ∷ Names (Compound (Struct (Some (codes "s47")) (items_from (field (Named (name.Struct (codes "s46")) None) (codes "a") ∷ [])) None))
    ∷ Names (Compound (Struct (Some (codes "s48")) (items_from (field (Named (name.Struct (codes "s47")) None) (codes "a") ∷ [])) None))
    ∷ Names (Compound (Struct (Some (codes "s49")) (items_from (field (Named (name.Struct (codes "s48")) None) (codes "a") ∷ [])) None))
    ∷ Names (Compound (Struct (Some (codes "s50")) (items_from (field (Named (name.Struct (codes "s49")) None) (codes "a") ∷ [])) None))
    ∷ Names (Compound (Struct (Some (codes "s51")) (items_from (field (Named (name.Struct (codes "s50")) None) (codes "a") ∷ [])) None))
    ∷ Names (Compound (Struct (Some (codes "s52")) (items_from (field (Named (name.Struct (codes "s51")) None) (codes "a") ∷ [])) None))
    ∷ Names (Compound (Struct (Some (codes "s53")) (items_from (field (Named (name.Struct (codes "s52")) None) (codes "a") ∷ [])) None))
    ∷ Names (Compound (Struct (Some (codes "s54")) (items_from (field (Named (name.Struct (codes "s53")) None) (codes "a") ∷ [])) None))
    ∷ Names (Compound (Struct (Some (codes "s55")) (items_from (field (Named (name.Struct (codes "s54")) None) (codes "a") ∷ [])) None))
    ∷ Names (Compound (Struct (Some (codes "s56")) (items_from (field (Named (name.Struct (codes "s55")) None) (codes "a") ∷ [])) None))
    ∷ Names (Compound (Struct (Some (codes "s57")) (items_from (field (Named (name.Struct (codes "s56")) None) (codes "a") ∷ [])) None))
    ∷ Names (Compound (Struct (Some (codes "s58")) (items_from (field (Named (name.Struct (codes "s57")) None) (codes "a") ∷ [])) None))
    ∷ Names (Compound (Struct (Some (codes "s59")) (items_from (field (Named (name.Struct (codes "s58")) None) (codes "a") ∷ [])) None))
    ∷ Names (Compound (Struct (Some (codes "s60")) (items_from (field (Named (name.Struct (codes "s59")) None) (codes "a") ∷ [])) None))
    ∷ Names (Compound (Struct (Some (codes "s61")) (items_from (field (Named (name.Struct (codes "s60")) None) (codes "a") ∷ [])) None))
    ∷ Names (Compound (Struct (Some (codes "s62")) (items_from (field (Named (name.Struct (codes "s61")) None) (codes "a") ∷ [])) None))
    ∷ Names (Compound (Struct (Some (codes "s63")) (items_from (field (Named (name.Struct (codes "s62")) None) (codes "a") ∷ [])) None))
    ∷ le_trace
    ∷ []

pub chain_63_faults : told chain_63 ≡ TooDeep ∷ []
chain_63_faults = refl

-- struct s0 { integer { size = 8; } a; }; struct s1 { struct s0 a, b; }; struct s2 { struct s1 a, b; }; struct s3 {
-- struct s2 a, b; }; struct s4 { struct s3 a, b; }; trace { major = 1; minor = 8; byte_order = le; ..
abbrev pub doubled : List Declaration
doubled =
    Names (Compound (Struct (Some (codes "s0")) (items_from (field (sized 8) (codes "a") ∷ [])) None))
    ∷ Names (Compound (Struct (Some (codes "s1")) (items_from (Fields (Named (name.Struct (codes "s0")) None) (declarator (codes "a") [] ∷ declarator (codes "b") [] ∷ []) ∷ [])) None))
    ∷ Names (Compound (Struct (Some (codes "s2")) (items_from (Fields (Named (name.Struct (codes "s1")) None) (declarator (codes "a") [] ∷ declarator (codes "b") [] ∷ []) ∷ [])) None))
    ∷ Names (Compound (Struct (Some (codes "s3")) (items_from (Fields (Named (name.Struct (codes "s2")) None) (declarator (codes "a") [] ∷ declarator (codes "b") [] ∷ []) ∷ [])) None))
    ∷ Names (Compound (Struct (Some (codes "s4")) (items_from (Fields (Named (name.Struct (codes "s3")) None) (declarator (codes "a") [] ∷ declarator (codes "b") [] ∷ []) ∷ [])) None))
    ∷ le_trace
    ∷ event_with (field (Named (name.Struct (codes "s4")) None) (codes "a") ∷ [])
    ∷ []

pub doubled_faults : told doubled ≡ []
doubled_faults = refl

pub doubled_class : class_of_text doubled ≡ denotes_fields (made 8 7 48 (class.Structure (member (codes "a") (made 8 6 47 (class.Structure (member (codes "a") (made 8 5 23 (class.Structure (member (codes "a") (made 8 4 11 (class.Structure (member (codes "a") (made 8 3 5 (class.Structure (member (codes "a") (made 8 2 2 (class.Structure (member (codes "a") (unsigned 8 8) ∷ []))) ∷ member (codes "b") (made 8 2 2 (class.Structure (member (codes "a") (unsigned 8 8) ∷ []))) ∷ []))) ∷ member (codes "b") (made 8 3 5 (class.Structure (member (codes "a") (made 8 2 2 (class.Structure (member (codes "a") (unsigned 8 8) ∷ []))) ∷ member (codes "b") (made 8 2 2 (class.Structure (member (codes "a") (unsigned 8 8) ∷ []))) ∷ []))) ∷ []))) ∷ member (codes "b") (made 8 4 11 (class.Structure (member (codes "a") (made 8 3 5 (class.Structure (member (codes "a") (made 8 2 2 (class.Structure (member (codes "a") (unsigned 8 8) ∷ []))) ∷ member (codes "b") (made 8 2 2 (class.Structure (member (codes "a") (unsigned 8 8) ∷ []))) ∷ []))) ∷ member (codes "b") (made 8 3 5 (class.Structure (member (codes "a") (made 8 2 2 (class.Structure (member (codes "a") (unsigned 8 8) ∷ []))) ∷ member (codes "b") (made 8 2 2 (class.Structure (member (codes "a") (unsigned 8 8) ∷ []))) ∷ []))) ∷ []))) ∷ []))) ∷ member (codes "b") (made 8 5 23 (class.Structure (member (codes "a") (made 8 4 11 (class.Structure (member (codes "a") (made 8 3 5 (class.Structure (member (codes "a") (made 8 2 2 (class.Structure (member (codes "a") (unsigned 8 8) ∷ []))) ∷ member (codes "b") (made 8 2 2 (class.Structure (member (codes "a") (unsigned 8 8) ∷ []))) ∷ []))) ∷ member (codes "b") (made 8 3 5 (class.Structure (member (codes "a") (made 8 2 2 (class.Structure (member (codes "a") (unsigned 8 8) ∷ []))) ∷ member (codes "b") (made 8 2 2 (class.Structure (member (codes "a") (unsigned 8 8) ∷ []))) ∷ []))) ∷ []))) ∷ member (codes "b") (made 8 4 11 (class.Structure (member (codes "a") (made 8 3 5 (class.Structure (member (codes "a") (made 8 2 2 (class.Structure (member (codes "a") (unsigned 8 8) ∷ []))) ∷ member (codes "b") (made 8 2 2 (class.Structure (member (codes "a") (unsigned 8 8) ∷ []))) ∷ []))) ∷ member (codes "b") (made 8 3 5 (class.Structure (member (codes "a") (made 8 2 2 (class.Structure (member (codes "a") (unsigned 8 8) ∷ []))) ∷ member (codes "b") (made 8 2 2 (class.Structure (member (codes "a") (unsigned 8 8) ∷ []))) ∷ []))) ∷ []))) ∷ []))) ∷ []))) ∷ [])))
doubled_class = refl

-- struct s0 { integer { size = 8; } a; }; struct s1 { struct s0 a, b; }; struct s2 { struct s1 a, b; }; trace { major =
-- 1; minor = 8; byte_order = le; }; stream { packet.context := struct { struct s1 a; }; }; event ..
abbrev pub nodes : List Declaration
nodes =
    Names (Compound (Struct (Some (codes "s0")) (items_from (field (sized 8) (codes "a") ∷ [])) None))
    ∷ Names (Compound (Struct (Some (codes "s1")) (items_from (Fields (Named (name.Struct (codes "s0")) None) (declarator (codes "a") [] ∷ declarator (codes "b") [] ∷ []) ∷ [])) None))
    ∷ Names (Compound (Struct (Some (codes "s2")) (items_from (Fields (Named (name.Struct (codes "s1")) None) (declarator (codes "a") [] ∷ declarator (codes "b") [] ∷ []) ∷ [])) None))
    ∷ le_trace
    ∷ Block kind.Stream (Classed (codes "packet" ∷ codes "context" ∷ []) (structure (field (Named (name.Struct (codes "s1")) None) (codes "a") ∷ [])) ∷ [])
    ∷ Block kind.Event (Assigned (quotes (codes "name") (codes "a")) ∷ [])
    ∷ Block kind.Event (Assigned (quotes (codes "name") (codes "b")) ∷ Assigned (counts (codes "id") 1) ∷ Classed (codes "fields" ∷ []) (structure (field (Named (name.Struct (codes "s2")) None) (codes "a") ∷ [])) ∷ [])
    ∷ []

pub nodes_faults : told nodes ≡ []
nodes_faults = refl

pub nodes_class : class_of_text nodes ≡ Some (trace None None None (stream 0 (Some (made 8 4 6 (class.Structure (member (codes "a") (made 8 3 5 (class.Structure (member (codes "a") (made 8 2 2 (class.Structure (member (codes "a") (unsigned 8 8) ∷ []))) ∷ member (codes "b") (made 8 2 2 (class.Structure (member (codes "a") (unsigned 8 8) ∷ []))) ∷ []))) ∷ [])))) None None None (event None 0 (codes "a") None (made 1 1 1 (class.Structure [])) ∷ event None 1 (codes "b") None (made 8 5 12 (class.Structure (member (codes "a") (made 8 4 11 (class.Structure (member (codes "a") (made 8 3 5 (class.Structure (member (codes "a") (made 8 2 2 (class.Structure (member (codes "a") (unsigned 8 8) ∷ []))) ∷ member (codes "b") (made 8 2 2 (class.Structure (member (codes "a") (unsigned 8 8) ∷ []))) ∷ []))) ∷ member (codes "b") (made 8 3 5 (class.Structure (member (codes "a") (made 8 2 2 (class.Structure (member (codes "a") (unsigned 8 8) ∷ []))) ∷ member (codes "b") (made 8 2 2 (class.Structure (member (codes "a") (unsigned 8 8) ∷ []))) ∷ []))) ∷ []))) ∷ []))) ∷ []) ∷ []))
nodes_class = refl

-- trace { major = 1; minor = 8; byte_order = le; }; typealias struct { struct { struct { struct { struct { struct {
-- struct { struct { struct { struct { struct { struct { struct { struct { struct { struct { struct { ..
abbrev pub depth_64 : List Declaration
depth_64 =
    le_trace
    ∷ Names (Alias (structure (field (structure (field (structure (field (structure (field (structure (field (structure (field (structure (field (structure (field (structure (field (structure (field (structure (field (structure (field (structure (field (structure (field (structure (field (structure (field (structure (field (structure (field (structure (field (structure (field (structure (field (structure (field (structure (field (structure (field (structure (field (structure (field (structure (field (structure (field (structure (field (structure (field (structure (field (structure (field (structure (field (structure (field (structure (field (structure (field (structure (field (structure (field (structure (field (structure (field (structure (field (structure (field (structure (field (structure (field (structure (field (structure (field (structure (field (structure (field (structure (field (structure (field (structure (field (structure (field (structure (field (structure (field (structure (field (structure (field (structure (field (structure (field (structure (field (structure (field (structure (field (structure (field (structure (field (structure []) (codes "a") ∷ [])) (codes "a") ∷ [])) (codes "a") ∷ [])) (codes "a") ∷ [])) (codes "a") ∷ [])) (codes "a") ∷ [])) (codes "a") ∷ [])) (codes "a") ∷ [])) (codes "a") ∷ [])) (codes "a") ∷ [])) (codes "a") ∷ [])) (codes "a") ∷ [])) (codes "a") ∷ [])) (codes "a") ∷ [])) (codes "a") ∷ [])) (codes "a") ∷ [])) (codes "a") ∷ [])) (codes "a") ∷ [])) (codes "a") ∷ [])) (codes "a") ∷ [])) (codes "a") ∷ [])) (codes "a") ∷ [])) (codes "a") ∷ [])) (codes "a") ∷ [])) (codes "a") ∷ [])) (codes "a") ∷ [])) (codes "a") ∷ [])) (codes "a") ∷ [])) (codes "a") ∷ [])) (codes "a") ∷ [])) (codes "a") ∷ [])) (codes "a") ∷ [])) (codes "a") ∷ [])) (codes "a") ∷ [])) (codes "a") ∷ [])) (codes "a") ∷ [])) (codes "a") ∷ [])) (codes "a") ∷ [])) (codes "a") ∷ [])) (codes "a") ∷ [])) (codes "a") ∷ [])) (codes "a") ∷ [])) (codes "a") ∷ [])) (codes "a") ∷ [])) (codes "a") ∷ [])) (codes "a") ∷ [])) (codes "a") ∷ [])) (codes "a") ∷ [])) (codes "a") ∷ [])) (codes "a") ∷ [])) (codes "a") ∷ [])) (codes "a") ∷ [])) (codes "a") ∷ [])) (codes "a") ∷ [])) (codes "a") ∷ [])) (codes "a") ∷ [])) (codes "a") ∷ [])) (codes "a") ∷ [])) (codes "a") ∷ [])) (codes "a") ∷ [])) (codes "a") ∷ [])) (codes "a") ∷ [])) (codes "a") ∷ [])) (codes "t" ∷ []))
    ∷ []

pub depth_64_faults : told depth_64 ≡ []
depth_64_faults = refl

pub depth_64_class : class_of_text depth_64 ≡ Some (trace None None None (stream 0 None None None None [] ∷ []))
depth_64_class = refl

-- trace { major = 1; minor = 8; byte_order = le; }; event { name = "n"; fields := struct { string ..
abbrev pub arrays_62 : List Declaration
arrays_62 =
    le_trace
    ∷ event_with (Fields (String []) (declarator (codes "s") (lengths.Constant 1 ∷ lengths.Constant 1 ∷ lengths.Constant 1 ∷ lengths.Constant 1 ∷ lengths.Constant 1 ∷ lengths.Constant 1 ∷ lengths.Constant 1 ∷ lengths.Constant 1 ∷ lengths.Constant 1 ∷ lengths.Constant 1 ∷ lengths.Constant 1 ∷ lengths.Constant 1 ∷ lengths.Constant 1 ∷ lengths.Constant 1 ∷ lengths.Constant 1 ∷ lengths.Constant 1 ∷ lengths.Constant 1 ∷ lengths.Constant 1 ∷ lengths.Constant 1 ∷ lengths.Constant 1 ∷ lengths.Constant 1 ∷ lengths.Constant 1 ∷ lengths.Constant 1 ∷ lengths.Constant 1 ∷ lengths.Constant 1 ∷ lengths.Constant 1 ∷ lengths.Constant 1 ∷ lengths.Constant 1 ∷ lengths.Constant 1 ∷ lengths.Constant 1 ∷ lengths.Constant 1 ∷ lengths.Constant 1 ∷ lengths.Constant 1 ∷ lengths.Constant 1 ∷ lengths.Constant 1 ∷ lengths.Constant 1 ∷ lengths.Constant 1 ∷ lengths.Constant 1 ∷ lengths.Constant 1 ∷ lengths.Constant 1 ∷ lengths.Constant 1 ∷ lengths.Constant 1 ∷ lengths.Constant 1 ∷ lengths.Constant 1 ∷ lengths.Constant 1 ∷ lengths.Constant 1 ∷ lengths.Constant 1 ∷ lengths.Constant 1 ∷ lengths.Constant 1 ∷ lengths.Constant 1 ∷ lengths.Constant 1 ∷ lengths.Constant 1 ∷ lengths.Constant 1 ∷ lengths.Constant 1 ∷ lengths.Constant 1 ∷ lengths.Constant 1 ∷ lengths.Constant 1 ∷ lengths.Constant 1 ∷ lengths.Constant 1 ∷ lengths.Constant 1 ∷ lengths.Constant 1 ∷ lengths.Constant 1 ∷ []) ∷ []) ∷ [])
    ∷ []

pub arrays_62_faults : told arrays_62 ≡ []
arrays_62_faults = refl

pub arrays_62_class : class_of_text arrays_62 ≡ denotes_fields (made 8 64 64 (class.Structure (member (codes "s") (made 8 63 63 (class.Array (fixed 1) (made 8 62 62 (class.Array (fixed 1) (made 8 61 61 (class.Array (fixed 1) (made 8 60 60 (class.Array (fixed 1) (made 8 59 59 (class.Array (fixed 1) (made 8 58 58 (class.Array (fixed 1) (made 8 57 57 (class.Array (fixed 1) (made 8 56 56 (class.Array (fixed 1) (made 8 55 55 (class.Array (fixed 1) (made 8 54 54 (class.Array (fixed 1) (made 8 53 53 (class.Array (fixed 1) (made 8 52 52 (class.Array (fixed 1) (made 8 51 51 (class.Array (fixed 1) (made 8 50 50 (class.Array (fixed 1) (made 8 49 49 (class.Array (fixed 1) (made 8 48 48 (class.Array (fixed 1) (made 8 47 47 (class.Array (fixed 1) (made 8 46 46 (class.Array (fixed 1) (made 8 45 45 (class.Array (fixed 1) (made 8 44 44 (class.Array (fixed 1) (made 8 43 43 (class.Array (fixed 1) (made 8 42 42 (class.Array (fixed 1) (made 8 41 41 (class.Array (fixed 1) (made 8 40 40 (class.Array (fixed 1) (made 8 39 39 (class.Array (fixed 1) (made 8 38 38 (class.Array (fixed 1) (made 8 37 37 (class.Array (fixed 1) (made 8 36 36 (class.Array (fixed 1) (made 8 35 35 (class.Array (fixed 1) (made 8 34 34 (class.Array (fixed 1) (made 8 33 33 (class.Array (fixed 1) (made 8 32 32 (class.Array (fixed 1) (made 8 31 31 (class.Array (fixed 1) (made 8 30 30 (class.Array (fixed 1) (made 8 29 29 (class.Array (fixed 1) (made 8 28 28 (class.Array (fixed 1) (made 8 27 27 (class.Array (fixed 1) (made 8 26 26 (class.Array (fixed 1) (made 8 25 25 (class.Array (fixed 1) (made 8 24 24 (class.Array (fixed 1) (made 8 23 23 (class.Array (fixed 1) (made 8 22 22 (class.Array (fixed 1) (made 8 21 21 (class.Array (fixed 1) (made 8 20 20 (class.Array (fixed 1) (made 8 19 19 (class.Array (fixed 1) (made 8 18 18 (class.Array (fixed 1) (made 8 17 17 (class.Array (fixed 1) (made 8 16 16 (class.Array (fixed 1) (made 8 15 15 (class.Array (fixed 1) (made 8 14 14 (class.Array (fixed 1) (made 8 13 13 (class.Array (fixed 1) (made 8 12 12 (class.Array (fixed 1) (made 8 11 11 (class.Array (fixed 1) (made 8 10 10 (class.Array (fixed 1) (made 8 9 9 (class.Array (fixed 1) (made 8 8 8 (class.Array (fixed 1) (made 8 7 7 (class.Array (fixed 1) (made 8 6 6 (class.Array (fixed 1) (made 8 5 5 (class.Array (fixed 1) (made 8 4 4 (class.Array (fixed 1) (made 8 3 3 (class.Array (fixed 1) (made 8 2 2 (class.Array (fixed 1) (made 8 1 1 class.String))))))))))))))))))))))))))))))))))))))))))))))))))))))))))))))))))))))))))))))))))))))))))))))))))))))))))))))))))))))))))))) ∷ [])))
arrays_62_class = refl

-- trace { major = 1; minor = 8; byte_order = le; }; event { name = "n"; fields := struct { string ..
abbrev pub arrays_63 : List Declaration
arrays_63 =
    le_trace
    ∷ event_with (Fields (String []) (declarator (codes "s") (lengths.Constant 1 ∷ lengths.Constant 1 ∷ lengths.Constant 1 ∷ lengths.Constant 1 ∷ lengths.Constant 1 ∷ lengths.Constant 1 ∷ lengths.Constant 1 ∷ lengths.Constant 1 ∷ lengths.Constant 1 ∷ lengths.Constant 1 ∷ lengths.Constant 1 ∷ lengths.Constant 1 ∷ lengths.Constant 1 ∷ lengths.Constant 1 ∷ lengths.Constant 1 ∷ lengths.Constant 1 ∷ lengths.Constant 1 ∷ lengths.Constant 1 ∷ lengths.Constant 1 ∷ lengths.Constant 1 ∷ lengths.Constant 1 ∷ lengths.Constant 1 ∷ lengths.Constant 1 ∷ lengths.Constant 1 ∷ lengths.Constant 1 ∷ lengths.Constant 1 ∷ lengths.Constant 1 ∷ lengths.Constant 1 ∷ lengths.Constant 1 ∷ lengths.Constant 1 ∷ lengths.Constant 1 ∷ lengths.Constant 1 ∷ lengths.Constant 1 ∷ lengths.Constant 1 ∷ lengths.Constant 1 ∷ lengths.Constant 1 ∷ lengths.Constant 1 ∷ lengths.Constant 1 ∷ lengths.Constant 1 ∷ lengths.Constant 1 ∷ lengths.Constant 1 ∷ lengths.Constant 1 ∷ lengths.Constant 1 ∷ lengths.Constant 1 ∷ lengths.Constant 1 ∷ lengths.Constant 1 ∷ lengths.Constant 1 ∷ lengths.Constant 1 ∷ lengths.Constant 1 ∷ lengths.Constant 1 ∷ lengths.Constant 1 ∷ lengths.Constant 1 ∷ lengths.Constant 1 ∷ lengths.Constant 1 ∷ lengths.Constant 1 ∷ lengths.Constant 1 ∷ lengths.Constant 1 ∷ lengths.Constant 1 ∷ lengths.Constant 1 ∷ lengths.Constant 1 ∷ lengths.Constant 1 ∷ lengths.Constant 1 ∷ lengths.Constant 1 ∷ []) ∷ []) ∷ [])
    ∷ []

pub arrays_63_faults : told arrays_63 ≡ TooDeep ∷ []
arrays_63_faults = refl

-- trace { major = 1; minor = 8; byte_order = le; }; typedef string ..
abbrev pub typedef_63 : List Declaration
typedef_63 =
    le_trace
    ∷ Names (Definition (String []) (declarator (codes "s") (lengths.Constant 1 ∷ lengths.Constant 1 ∷ lengths.Constant 1 ∷ lengths.Constant 1 ∷ lengths.Constant 1 ∷ lengths.Constant 1 ∷ lengths.Constant 1 ∷ lengths.Constant 1 ∷ lengths.Constant 1 ∷ lengths.Constant 1 ∷ lengths.Constant 1 ∷ lengths.Constant 1 ∷ lengths.Constant 1 ∷ lengths.Constant 1 ∷ lengths.Constant 1 ∷ lengths.Constant 1 ∷ lengths.Constant 1 ∷ lengths.Constant 1 ∷ lengths.Constant 1 ∷ lengths.Constant 1 ∷ lengths.Constant 1 ∷ lengths.Constant 1 ∷ lengths.Constant 1 ∷ lengths.Constant 1 ∷ lengths.Constant 1 ∷ lengths.Constant 1 ∷ lengths.Constant 1 ∷ lengths.Constant 1 ∷ lengths.Constant 1 ∷ lengths.Constant 1 ∷ lengths.Constant 1 ∷ lengths.Constant 1 ∷ lengths.Constant 1 ∷ lengths.Constant 1 ∷ lengths.Constant 1 ∷ lengths.Constant 1 ∷ lengths.Constant 1 ∷ lengths.Constant 1 ∷ lengths.Constant 1 ∷ lengths.Constant 1 ∷ lengths.Constant 1 ∷ lengths.Constant 1 ∷ lengths.Constant 1 ∷ lengths.Constant 1 ∷ lengths.Constant 1 ∷ lengths.Constant 1 ∷ lengths.Constant 1 ∷ lengths.Constant 1 ∷ lengths.Constant 1 ∷ lengths.Constant 1 ∷ lengths.Constant 1 ∷ lengths.Constant 1 ∷ lengths.Constant 1 ∷ lengths.Constant 1 ∷ lengths.Constant 1 ∷ lengths.Constant 1 ∷ lengths.Constant 1 ∷ lengths.Constant 1 ∷ lengths.Constant 1 ∷ lengths.Constant 1 ∷ lengths.Constant 1 ∷ lengths.Constant 1 ∷ lengths.Constant 1 ∷ []) ∷ []))
    ∷ []

pub typedef_63_faults : told typedef_63 ≡ []
typedef_63_faults = refl

pub typedef_63_class : class_of_text typedef_63 ≡ Some (trace None None None (stream 0 None None None None [] ∷ []))
typedef_63_class = refl

-- trace { major = 1; minor = 8; byte_order = le; }; typedef string ..
abbrev pub typedef_64 : List Declaration
typedef_64 =
    le_trace
    ∷ Names (Definition (String []) (declarator (codes "s") (lengths.Constant 1 ∷ lengths.Constant 1 ∷ lengths.Constant 1 ∷ lengths.Constant 1 ∷ lengths.Constant 1 ∷ lengths.Constant 1 ∷ lengths.Constant 1 ∷ lengths.Constant 1 ∷ lengths.Constant 1 ∷ lengths.Constant 1 ∷ lengths.Constant 1 ∷ lengths.Constant 1 ∷ lengths.Constant 1 ∷ lengths.Constant 1 ∷ lengths.Constant 1 ∷ lengths.Constant 1 ∷ lengths.Constant 1 ∷ lengths.Constant 1 ∷ lengths.Constant 1 ∷ lengths.Constant 1 ∷ lengths.Constant 1 ∷ lengths.Constant 1 ∷ lengths.Constant 1 ∷ lengths.Constant 1 ∷ lengths.Constant 1 ∷ lengths.Constant 1 ∷ lengths.Constant 1 ∷ lengths.Constant 1 ∷ lengths.Constant 1 ∷ lengths.Constant 1 ∷ lengths.Constant 1 ∷ lengths.Constant 1 ∷ lengths.Constant 1 ∷ lengths.Constant 1 ∷ lengths.Constant 1 ∷ lengths.Constant 1 ∷ lengths.Constant 1 ∷ lengths.Constant 1 ∷ lengths.Constant 1 ∷ lengths.Constant 1 ∷ lengths.Constant 1 ∷ lengths.Constant 1 ∷ lengths.Constant 1 ∷ lengths.Constant 1 ∷ lengths.Constant 1 ∷ lengths.Constant 1 ∷ lengths.Constant 1 ∷ lengths.Constant 1 ∷ lengths.Constant 1 ∷ lengths.Constant 1 ∷ lengths.Constant 1 ∷ lengths.Constant 1 ∷ lengths.Constant 1 ∷ lengths.Constant 1 ∷ lengths.Constant 1 ∷ lengths.Constant 1 ∷ lengths.Constant 1 ∷ lengths.Constant 1 ∷ lengths.Constant 1 ∷ lengths.Constant 1 ∷ lengths.Constant 1 ∷ lengths.Constant 1 ∷ lengths.Constant 1 ∷ lengths.Constant 1 ∷ []) ∷ []))
    ∷ []

pub typedef_64_faults : told typedef_64 ≡ TooDeep ∷ []
typedef_64_faults = refl

-- The structure s(k) has 2^(k+1) + 2^k - 1 classes. A scope adds one, an event without fields has one.
pub nodes_counted : nodes_before nodes 4 ≡ 0
nodes_counted = refl

pub nodes_by_block : (nodes_before nodes 5 ≡ 6) × (nodes_before nodes 6 ≡ 7) × (nodes_before nodes 7 ≡ 19)
nodes_by_block = (refl, refl, refl)

-- Of a limit of 6 the first event passes it, of 7 the second, of 19 none.
pub nodes_limits : (node_faults nodes 6 4 ≡ []) × (node_faults nodes 6 5 ≡ TooDeep ∷ []) × (node_faults nodes 7 5 ≡ []) × (node_faults nodes 7 6 ≡ TooDeep ∷ []) × (node_faults nodes 19 6 ≡ [])
nodes_limits = (refl, refl, refl, refl, refl)

-- The block with which the sum passes the limit has the fault, and no later one.
pub nodes_limit_once : node_faults nodes 6 6 ≡ []
nodes_limit_once = refl
