-- No type has an empty string.
use Rattle.std.proofs.Common.{◌≡◌, false, [], refl}
use Rattle.fhir_json.specs.Tree.{string}
use Rattle.fhir_prims.specs.declared.prim.PrimType.{PrimType}
use Rattle.fhir_prims.specs.declared.prim.PrimType.TheVariants.{Boolean, Integer, UnsignedInt, PositiveInt, Decimal, String, Markdown, Xhtml, Code, Id, Uri}
use Rattle.fhir_prims.specs.declared.prim.PrimType.TheVariants.{Url, Canonical, Oid, Uuid, Base64Binary, Date, DateTime, Instant, Time}
use Rattle.fhir_prims.specs.Values.{lexical}

pub none_empty : (p : PrimType) → lexical p (string []) ≡ false
none_empty Boolean = refl
none_empty Integer = refl
none_empty UnsignedInt = refl
none_empty PositiveInt = refl
none_empty Decimal = refl
none_empty String = refl
none_empty Markdown = refl
none_empty Xhtml = refl
none_empty Code = refl
none_empty Id = refl
none_empty Uri = refl
none_empty Url = refl
none_empty Canonical = refl
none_empty Oid = refl
none_empty Uuid = refl
none_empty Base64Binary = refl
none_empty Date = refl
none_empty DateTime = refl
none_empty Instant = refl
none_empty Time = refl
