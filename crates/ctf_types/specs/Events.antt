-- What an event block gives.
use Rattle.std.specs.Prelude.{◌≡◌, ℕ, List, [], length, Some}
use Rattle.tsdl_tree.specs.declared.tree.BlockKind.TheVariants.{Event}
use Rattle.ctf_bits.specs.declared.number.Order.{Order}
use Rattle.ctf_class.specs.declared.route.Scope.TheVariants.{EventContext, EventFields}
use Rattle.ctf_class.specs.declared.trace.EventClass.{EventClass}
use Rattle.ctf_meaning.specs.Name.{Word}
use Rattle.ctf_meaning.specs.Written.{Declaration}
use Rattle.ctf_meaning.specs.Shapes.{Shape}
use Rattle.ctf_meaning.specs.Scopes.{Home, scope_of}
use Rattle.ctf_meaning.specs.Streams.{streams}
use Rattle.ctf_meaning.specs.Faults.{scope_links}
use Rattle.ctf_meaning.specs.Denotes.{scope_class, host_of}
use Rattle.ctf_types.specs.declared.linked.Linked.{Linked}
use Rattle.ctf_types.specs.Gathered.{IsLinked}
use Rattle.ctf_types.specs.Parted.{IsBelow}

module _ (text : List Declaration) where
  -- the fields of the event have a class
  abbrev pub HasFields : Home → Type 0
  HasFields home = (s : Shape) × (scope_of text home EventFields ≡ Some s)

  module _ (order : Order) where
    -- the event class of this id and name, by the blocks that declare its scopes
    pub record IsEventOf (home : Home) (id : ℕ) (name : Word) (e : EventClass) : Type 0 where
      pub clean : scope_links text home Event ≡ []
      pub ids : e.id ≡ id
      pub heading : e.heading ≡ record { host = host_of text; name = name }
      pub context : scope_class text order home EventContext ≡ Some e.context
      pub fields : scope_class text order home EventFields ≡ Some (Some e.fields)

-- what the declaration of this number gives
pub record IsRow (text : List Declaration) (order : Order) (p : ℕ × Declaration) (row : Linked)
    : Type 0 where
  pub linked : IsLinked text order p row
  pub below : IsBelow (length (streams text)) row
