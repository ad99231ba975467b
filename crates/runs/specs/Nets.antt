-- The graph and its times as the model has them, read off the program's values. Assumes nothing.
--
-- channel_at  a channel by its number, zeros past the last
-- net_of      so many actors with these channels
-- net         a graph
-- at          a list as a table, 0 past its end
-- times_of    the graph's table of times
-- reps_of     its repetition counts
-- taken       new ticks left, of the firings under way
use Rattle.std.specs.Prelude.{ℕ, cond, List, length, get_or, slice_index, slice_index_or}
use Rattle.model.specs.Net.{Net, State, busy}
use Rattle.graph.specs.declared.channel.Channel.{Channel}
use Rattle.graph.specs.declared.graph.Graph.{Graph}
use Rattle.graph.specs.Channels.{blank}
use Rattle.graph.specs.Rules.{nobody}
use Rattle.graph.specs.Meaning.{actors_in, channels_in, counts_in}

abbrev pub channel_at : List Channel → ℕ → Channel
channel_at cs c = slice_index_or cs c blank

abbrev pub net_of : ℕ → List Channel → Net
net_of n cs = record {
  actors = n;
  channels = length cs;
  source = λ c. (channel_at cs c).source;
  dest = λ c. (channel_at cs c).dest;
  p = λ c. (channel_at cs c).p;
  q = λ c. (channel_at cs c).q;
  capacity = λ c. (channel_at cs c).capacity;
  initial = λ c. (channel_at cs c).tokens;
}

abbrev pub net : Graph → Net
net g = net_of (length (actors_in g)) (channels_in g)

abbrev pub at : List ℕ → ℕ → ℕ
at xs i = slice_index xs i

abbrev pub times_of : Graph → ℕ → ℕ
times_of g a = (get_or (actors_in g) a nobody).time

abbrev pub reps_of : Graph → ℕ → ℕ
reps_of g = at (counts_in g)

abbrev pub taken : State → (ℕ → ℕ) → ℕ → ℕ
taken s left a = cond (busy s a) (left a) 0
