use Rattle.std.proofs.Common.{refl, Some}
use Rattle.std.specs.Prelude.{codes}
use Rattle.std.specs.Str.{chars}
use Rattle.fhir_json.specs.Tree.{Text, Tree, number, string}
use Rattle.fhir_decimal.specs.Reading.{parts}
use Rattle.fhir_decimal.specs.Value.{value_of, value_order}
use Rattle.fhir_instance.specs.Items.{Item, item, kid, no_kids}
use Rattle.fhir_conformance.specs.Letters.{saying, coded, counted, memo}
use Rattle.fhir_conformance.proofs.Refuted.{letter_root, refuted}
use Rattle.fhir_conformance.proofs.laws.values_example.Goals as goal

-- ---- the items

with_value : Text → Text → Tree → Item
with_value name type value = item (codes "Letter") (Some (saying name value)) (kid name (item type (Some value) no_kids) no_kids)

with_code : Text → Text → Item
with_code name code = with_value name (codes "code") (string code)

with_count : Text → Text → Item
with_count name digits = with_value name (codes "integer") (number digits)

-- ---- the clauses

pub returns-clause-greeting : goal.returns-clause-greeting
unfolding with_value with_code
returns-clause-greeting c meaning = record {
  node = letter_root;
  itself = with_code (codes "greeting") (codes "dear");
  usable = refl;
  typed = refl;
  holds = refl;
}

pub returns-clause-rude : goal.returns-clause-rude
unfolding with_value with_code
returns-clause-rude c meaning =
    refuted meaning (codes "urn:Letter") (coded (codes "greeting") (codes "you")) (with_code (codes "greeting") (codes "you")) letter_root refl refl refl

pub returns-clause-language : goal.returns-clause-language
unfolding with_value with_code
returns-clause-language c meaning = record {
  node = letter_root;
  itself = with_code (codes "language") (codes "en");
  usable = refl;
  typed = refl;
  holds = refl;
}

pub returns-clause-foreign : goal.returns-clause-foreign
unfolding with_value with_code
returns-clause-foreign c meaning =
    refuted meaning (codes "urn:Letter") (coded (codes "language") (codes "fr")) (with_code (codes "language") (codes "fr")) letter_root refl refl refl

pub returns-clause-farewell : goal.returns-clause-farewell
unfolding with_value with_code chars
returns-clause-farewell c meaning = record {
  node = letter_root;
  itself = with_code (codes "farewell") (codes "bye");
  usable = refl;
  typed = refl;
  holds = refl;
}

pub returns-clause-wordy : goal.returns-clause-wordy
unfolding with_value with_code chars
returns-clause-wordy c meaning =
    refuted meaning (codes "urn:Letter") (coded (codes "farewell") (codes "adieu")) (with_code (codes "farewell") (codes "adieu")) letter_root refl refl refl

pub returns-clause-pages : goal.returns-clause-pages
unfolding with_value with_count parts value_of value_order
returns-clause-pages c meaning = record {
  node = letter_root;
  itself = with_count (codes "pages") (codes "1");
  usable = refl;
  typed = refl;
  holds = refl;
}

pub returns-clause-empty : goal.returns-clause-empty
unfolding with_value with_count parts value_of value_order
returns-clause-empty c meaning =
    refuted meaning (codes "urn:Letter") (counted (codes "pages") (codes "0")) (with_count (codes "pages") (codes "0")) letter_root refl refl refl

pub returns-clause-copies : goal.returns-clause-copies
unfolding with_value with_count parts value_of value_order
returns-clause-copies c meaning = record {
  node = letter_root;
  itself = with_count (codes "copies") (codes "9");
  usable = refl;
  typed = refl;
  holds = refl;
}

pub returns-clause-crowd : goal.returns-clause-crowd
unfolding with_value with_count parts value_of value_order
returns-clause-crowd c meaning =
    refuted meaning (codes "urn:Letter") (counted (codes "copies") (codes "10")) (with_count (codes "copies") (codes "10")) letter_root refl refl refl

pub returns-clause-memo : goal.returns-clause-memo
returns-clause-memo c meaning =
    refuted meaning (codes "urn:Letter") memo (item (codes "Memo") (Some memo) no_kids) letter_root refl refl refl
