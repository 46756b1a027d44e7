use Rattle.std.proofs.Common.{◌*◌, ◌^◌, length, ap, ◌∙◌}
use Rattle.fhir_number_keys.specs.Digits.{number_in, digits_of}
use Rattle.fhir_number_keys.proofs.Sums.{summed}
use Rattle.fhir_number_keys.proofs.digits.digits_of_sum.Goals as goal

pub returns : goal.returns
returns c =
    c.drop_zeros.ensures
    ∙ ap digits_of
    (summed c.args.front.now c.args.back.now (number_in c.new-digits.result.items) (number_in c.push_text.new.digits.items) (number_in c.push_text-2.new.digits.items)
    (number_in c.push_number.new.digits.items) c.in_ok-left.left (c.in_ok-left-2.left * 10 ^ length c.push_text-2.new.digits.items) c.args.addend
    (length c.new-digits.result.items) (length c.push_text.new.digits.items) (ap number_in c.new-digits.ensures.items) (ap length c.new-digits.ensures.items) c.in_ok-left.ensures.len
    c.in_ok-left.ensures.number c.in_ok-left-2.ensures.number c.in_ok-push_number.ensures.number)
