use Rattle.fhir_package.proofs.Changed.{put_sound, put_once, each_sound, each_once, put_is_found, put_other_url, put_other_kind, put_in_place, put_behind}
use Rattle.fhir_package.proofs.Changed.{removed_sound, removed_once, removed_none, removed_other_url, replaced_sound, replaced_once}
use Rattle.fhir_package.proofs.Sounds.{are_sound}
use Rattle.fhir_package.proofs.laws.changes.Goals as goal

pub returns-clause-packed : goal.returns-clause-packed
returns-clause-packed c = λ files p is. (are_sound c.reading_agrees.ensures files p is, λ kind. c.packages.ensures.distinct files p kind is)

pub returns-clause-put_sound : goal.returns-clause-put_sound
returns-clause-put_sound c = put_sound

pub returns-clause-put_once : goal.returns-clause-put_once
returns-clause-put_once c = put_once

pub returns-clause-each_sound : goal.returns-clause-each_sound
returns-clause-each_sound c = each_sound

pub returns-clause-each_once : goal.returns-clause-each_once
returns-clause-each_once c = each_once

pub returns-clause-put : goal.returns-clause-put
returns-clause-put c = put_is_found

pub returns-clause-put_other_url : goal.returns-clause-put_other_url
returns-clause-put_other_url c = put_other_url

pub returns-clause-put_other_kind : goal.returns-clause-put_other_kind
returns-clause-put_other_kind c = put_other_kind

pub returns-clause-put_in_place : goal.returns-clause-put_in_place
returns-clause-put_in_place c = put_in_place

pub returns-clause-put_behind : goal.returns-clause-put_behind
returns-clause-put_behind c = put_behind

pub returns-clause-removed_sound : goal.returns-clause-removed_sound
returns-clause-removed_sound c = removed_sound

pub returns-clause-removed_once : goal.returns-clause-removed_once
returns-clause-removed_once c = removed_once

pub returns-clause-removed : goal.returns-clause-removed
returns-clause-removed c = removed_none

pub returns-clause-removed_other_url : goal.returns-clause-removed_other_url
returns-clause-removed_other_url c = removed_other_url

pub returns-clause-replaced_sound : goal.returns-clause-replaced_sound
returns-clause-replaced_sound c = replaced_sound

pub returns-clause-replaced_once : goal.returns-clause-replaced_once
returns-clause-replaced_once c = replaced_once
