-- Which primitive types are which JSON values.
use Rattle.std.proofs.Common.{◌≡◌, Bool, true, refl}
use Rattle.std.proofs.lemmas.Bool.{false≢true}
use Rattle.fhir_json.specs.Tree.{Text, boolean, number, string}
use Rattle.fhir_prims.specs.declared.prim.PrimType.{PrimType}
use Rattle.fhir_prims.specs.declared.prim.PrimType.TheVariants.{Boolean, Integer, UnsignedInt, PositiveInt, Decimal}
use Rattle.fhir_prims.specs.Values.{lexical}
use Rattle.fhirpath_laws.specs.Primitives.{is_flag_type, is_number_type, is_text_type}

pub flags_alone : (p : PrimType) (b : Bool) → lexical p (boolean b) ≡ is_flag_type p
flags_alone Boolean b = refl
flags_alone _ b = refl

pub numbers_alone : (p : PrimType) (s : Text) → lexical p (number s) ≡ true → is_number_type p ≡ true
numbers_alone Integer s h = refl
numbers_alone UnsignedInt s h = refl
numbers_alone PositiveInt s h = refl
numbers_alone Decimal s h = refl
numbers_alone _ s h = absurd (false≢true h)

pub texts_alone : (p : PrimType) (s : Text) → lexical p (string s) ≡ true → is_text_type p ≡ true
texts_alone Boolean s h = absurd (false≢true h)
texts_alone Integer s h = absurd (false≢true h)
texts_alone UnsignedInt s h = absurd (false≢true h)
texts_alone PositiveInt s h = absurd (false≢true h)
texts_alone Decimal s h = absurd (false≢true h)
texts_alone _ s h = refl
