-- Below which nodes typing goes on.
use Rattle.std.specs.Prelude.{Option, None}
use Rattle.fhir_nodes.specs.declared.node.NodeRef.{NodeRef}
use Rattle.fhir_forms.specs.declared.form.Content.{Content}
use Rattle.fhir_forms.specs.declared.form.Content.TheVariants.{Primitive, System, Resource, Complex}

-- the node by which the children of what a property holds are typed; a resource is typed by its own type
abbrev pub below : Content → Option NodeRef
below (Primitive prim n) = n
below System = None
below Resource = None
below (Complex n) = n
