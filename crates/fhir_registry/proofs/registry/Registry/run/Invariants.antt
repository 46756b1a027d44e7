use Rattle.std.proofs.Common.{◌≡◌, map}
use Rattle.fhir_commands.specs.Commands.{command_seen}
use Rattle.fhir_commands.specs.Replies.{reply_seen}
use Rattle.fhir_registry.proofs.Replied.{Runs}
use Rattle.fhir_registry.proofs.registry.Registry.run.Given as goal

abbrev pub invariant-loop-command : goal.invariant-loop-command
invariant-loop-command l =
    (l.self.texts ≡ l.fn.self.texts)
    × Runs l.fn.self.texts l.fn.self.definitions (map command_seen l.fn.commands.items) (map reply_seen l.replies.items) l.self.definitions
    (map command_seen l.command-iterator.rest.items)
