-- What a host in memory is, of what it keeps.
use Rattle.kms_host.specs.History.{WhereTold}
use Rattle.kms_host.specs.Memory.{MemoryState, both}
use Rattle.kms_host.specs.Recording.{history_of, Agrees}
use Rattle.kms_host.specs.declared.memory.host.MemoryHost.TheInside.{Inside}

abbrev pub state_of : Inside → MemoryState
state_of m = record {
  history = history_of (both m.opening) m.key_files.items m.log.calls;
  wanted = m.log.wanted;
  counters = record { key_file = m.key_file; store = m.store; link = m.link; draw = m.draw; listen = m.listen };
  key_files = m.key_files.items;
  file_0 = m.file_0;
  file_1 = m.file_1;
  lines = m.inputs.items;
  opened = m.opened;
  outputs = m.outputs.items;
  moments = m.moments.items;
  told = m.told;
  random = m.random;
}

-- As long as the calls are told, what was sent, how many lines were opened and how the files are is what they say.
abbrev pub IsTrueToCalls : Inside → Type 0
IsTrueToCalls m = WhereTold (state_of m).history (Agrees m.outputs.items m.opened m.file_0 m.file_1)
