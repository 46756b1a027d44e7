use Rattle.fhir_json.proofs.Owned.{array-owned, object-owned}
use Rattle.fhir_json.proofs.detaching.+detach.Goals as goal

pub detached_json-returns-in_ok-detached_items-in-Arr-clause-owned : goal.detached_json-returns-in_ok-detached_items-in-Arr-clause-owned
detached_json-returns-in_ok-detached_items-in-Arr-clause-owned t c =
    array-owned c.in_ok-detached_items-in-Arr.field-0 c.in_ok-detached_items-in-Arr.ensures.owned

pub detached_json-returns-in_ok-detached_members-in-Obj-clause-owned : goal.detached_json-returns-in_ok-detached_members-in-Obj-clause-owned
detached_json-returns-in_ok-detached_members-in-Obj-clause-owned t c =
    object-owned c.in_ok-detached_members-in-Obj.field-0 c.in_ok-detached_members-in-Obj.ensures.owned
